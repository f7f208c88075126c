use Rattle.std.proofs.Common.{◌≡◌, ◌-◌, ◌<◌, length, take, drop, refl, arith, length-drop, length-take, get_or-take, ltb-false, ltb-true}
use Rattle.text.specs.Signs.{lex_open, lex_close, lex_bar, lex_star, lex_dot, lex_plain}
use Rattle.text.proofs.Bytes.{rest_is, byte_signed, front_is, two_is, two_lex, five_lex}
use Rattle.text.proofs.sign.next_sign.Goals as goal

pub returns-in-40 : goal.returns-in-40
returns-in-40 c = record { lexed = byte_signed 40 _ (omega (arith, ltb-true, ltb-false)) c.in-40.is lex_open; borrows = tt }

pub returns-in-41 : goal.returns-in-41
returns-in-41 c = record { lexed = byte_signed 41 _ (omega (arith, ltb-true, ltb-false)) c.in-41.is lex_close; borrows = tt }

pub returns-in-124 : goal.returns-in-124
returns-in-124 c = record { lexed = byte_signed 124 _ (omega (arith, ltb-true, ltb-false)) c.in-124.is lex_bar; borrows = tt }

pub returns-in-42 : goal.returns-in-42
returns-in-42 c = record { lexed = byte_signed 42 _ (omega (arith, ltb-true, ltb-false)) c.in-42.is lex_star; borrows = tt }

pub returns-in-46 : goal.returns-in-46
returns-in-46 c = record { lexed = byte_signed 46 _ (omega (arith, ltb-true, ltb-false)) c.in-46.is lex_dot; borrows = tt }

pub returns-in-91-text : goal.returns-in-91-text
returns-in-91-text c =
    let l : length (take 5 c.args.text.now) ≡ 5 = simp length-take (omega (arith, ltb-true, ltb-false)) in
    record {
      lexed = five_lex (take 5 c.args.text.now) _ _ l (front_is 5 _)
          (omega (arith, get_or-take 5 c.args.text.now 0 0 (omega arith)))
          (omega (arith, get_or-take 5 c.args.text.now 2 0 (omega arith)))
          (omega (arith, get_or-take 5 c.args.text.now 4 0 (omega arith)))
          (omega (arith, get_or-take 5 c.args.text.now 1 0 (omega arith), get_or-take 5 c.args.text.now 3 0 (omega arith)));
      borrows = (l, front_is 5 _);
    }

pub returns-in-len1-up-rest : goal.returns-in-len1-up-rest
returns-in-len1-up-rest c =
    let h : 0 < length (take (length c.args.text.now - 1) (drop 1 c.args.text.now)) = omega (arith, ltb-true, ltb-false) in
    let k : 1 < length c.args.text.now = omega (arith, simp (rest_is, length-drop) at h) in
    let l : length (take 2 c.args.text.now) ≡ 2 = simp length-take (omega arith) in
    record { lexed = two_lex (take 2 c.args.text.now) _ _ l (two_is _ k) (omega (arith, get_or-take 2 c.args.text.now 0 0 (omega arith), c.in-92.is)); borrows = (l, two_is _ k) }

pub returns-in_default-2 : goal.returns-in_default-2
returns-in_default-2 c = record {
  lexed = byte_signed _ _ (omega (arith, ltb-true, ltb-false)) refl (lex_plain (record { not_open = omega arith; not_close = omega arith; not_bar = omega arith; not_star = omega arith; not_class = omega arith; not_class_end = omega arith; not_escape = omega arith; not_dot = omega arith }));
  borrows = tt;
}
