-- Writing a head and two parts into a list, one after the other.
use Rattle.std.proofs.Common.{◌≡◌, ℕ, suc, ◌+◌, ◌-◌, ◌<◌, ◌≤◌, List, [], ◌∷◌, ◌++◌, length, get_or, take, drop, set, replicate, None, Option, sym, refl, ap, ◌∙◌, subst, append-nil, one-add, arith, length-append, length-drop, length-take}
use Rattle.std.proofs.lemmas.List.{length-set, take_at, drop_at, drop_all, nil_from_length, replicate-append-replicate}
use Rattle.rules.specs.declared.row.Row.{Row}
use Rattle.rules.specs.Trees.{Tree, empty, leaf, choice, sequence, star, size}
use Rattle.rules.specs.Readings.{Reading, nothing}
use Rattle.rules.specs.Nodes.{Stands}
use Rattle.matcher.specs.Sizes.{Sized}
use Rattle.matcher.specs.Unpacking.{unpacked, first_share, second_share, code_at}
use Rattle.rules.proofs.Nodes.{choice_first, choice_second, sequence_first, sequence_second, star_part}
use Rattle.matcher.proofs.Nodes.{kind_at, kind_is}
use borrow.Rule.Slice.PartMut.{put_mid}

module _ {X : Type 0} (xs : List X) (x : X) (ys zs : List X) (a b : ℕ) (long : length xs ≡ 1 + a + b) where
  pub first_long : length (take (1 + a - 1) (drop 1 (set xs 0 x))) ≡ a
  first_long = omega (arith, length-take (1 + a - 1) (drop 1 (set xs 0 x)), length-drop 1 (set xs 0 x), length-set xs 0 x)

  pub half_long : length ys ≡ a → length (put_mid 1 (1 + a - 1) (set xs 0 x) ys) ≡ 1 + a + b
  half_long e =
      let k : ℕ = 1 + a - 1 in
      omega (arith, length-append (take 1 (set xs 0 x)) (ys ++ drop k (drop 1 (set xs 0 x))), length-append ys (drop k (drop 1 (set xs 0 x))), length-take 1 (set xs 0 x), length-drop k (drop 1 (set xs 0 x)), length-drop 1 (set xs 0 x), length-set xs 0 x)

take_head : {X : Type 0} (x : X) (ys r : List X) (a : ℕ) → length ys ≡ a → take (1 + a) (x ∷ (ys ++ r)) ≡ x ∷ ys
take_head {X} x ys r a e = rw one-add (ap (λ (l : List X). x ∷ l) (take_at ys r a e))

drop_head : {X : Type 0} (x : X) (ys r : List X) (a : ℕ) → length ys ≡ a → drop (1 + a) (x ∷ (ys ++ r)) ≡ r
drop_head x ys r a e = rw one-add (drop_at ys r a e)

joined : {X : Type 0} (x : X) (ys zs r : List X) (a k : ℕ) → length ys ≡ a → length r ≤ k → take (1 + a) (x ∷ (ys ++ r)) ++ (zs ++ drop k (drop (1 + a) (x ∷ (ys ++ r)))) ≡ x ∷ (ys ++ zs)
joined {X} x ys zs r a k e l =
    let z : drop k (drop (1 + a) (x ∷ (ys ++ r))) ≡ [] = ap (drop k) (drop_head x ys r a e) ∙ drop_all k r l in
    rw (take_head x ys r a e, z, append-nil zs)

pub written : {X : Type 0} (xs : List X) (x : X) (ys zs : List X) (a b : ℕ) → length xs ≡ 1 + a + b → length ys ≡ a →
    put_mid (1 + a) (length (put_mid 1 (1 + a - 1) (set xs 0 x) ys) - (1 + a)) (put_mid 1 (1 + a - 1) (set xs 0 x) ys) zs ≡ x ∷ (ys ++ zs)
written [] x ys zs a b long e = absurd (omega arith)
written (w ∷ rest) x ys zs a b long e =
    joined x ys zs (drop (1 + a - 1) rest) a (length (put_mid 1 (1 + a - 1) (set (w ∷ rest) 0 x) ys) - (1 + a)) e
    (omega (arith, half_long (w ∷ rest) x ys zs a b long e, length-drop (1 + a - 1) rest))

pub written_one : {X : Type 0} (xs : List X) (x : X) (ys : List X) → 0 < length xs → put_mid 1 (length (set xs 0 x) - 1) (set xs 0 x) ys ≡ x ∷ ys
written_one [] x ys l = absurd (omega arith)
written_one {X} (w ∷ rest) x ys l =
    let z : drop (suc (length rest) - 1) rest ≡ [] = drop_all (suc (length rest) - 1) rest (omega arith) in
    ap (λ (r : List X). x ∷ (ys ++ r)) z ∙ ap (λ (r : List X). x ∷ r) (append-nil ys)

pub rest_long : {X : Type 0} (xs : List X) (x : X) → length (take (length (set xs 0 x) - 1) (drop 1 (set xs 0 x))) ≡ length xs - 1
rest_long xs x = omega (arith, length-take (length (set xs 0 x) - 1) (drop 1 (set xs 0 x)), length-drop 1 (set xs 0 x), length-set xs 0 x)

pub rest_fits : {X : Type 0} (xs : List X) (x : X) → 0 < length xs → 1 ≤ length (set xs 0 x)
rest_fits xs x l = omega (arith, length-set xs 0 x)

pub written_none : {X : Type 0} (xs : List X) (x : X) → length xs ≡ 1 → set xs 0 x ≡ x ∷ []
written_none [] x l = absurd (omega arith)
written_none {X} (w ∷ rest) x l = ap (λ (r : List X). x ∷ r) (nil_from_length rest (omega arith))

-- The reading that the parts make.
carry : {Y : Type 0} (F : Option (ℕ × ℕ) → ℕ → Y) (G : Option (ℕ × ℕ) → ℕ) (y : Y) (A B : Option (ℕ × ℕ)) (d : ℕ) → A ≡ B → d ≡ G A → y ≡ F A d → y ≡ F B (G B)
carry F G y A B d e g h = h ∙ (ap (F A) g ∙ ap (λ o. F o (G o)) e)

module _ (rs : List Row) (table : List ℕ) (n : ℕ) (bs : List ℕ) (m : ℕ) (o : Option (ℕ × ℕ)) (c : ℕ) (sized : Sized rs table) where
  abbrev Part : ℕ → Option (ℕ × ℕ) → ℕ → Reading → Type 0
  Part at A d ys = (p : Tree) → Stands rs at p → ys ≡ unpacked n bs p at A d

  one_part : (kind kind' at : ℕ) (share : ℕ → Option (ℕ × ℕ)) (A : Option (ℕ × ℕ)) (d : ℕ) (ys : Reading) (p : Tree) → kind ≡ kind' → A ≡ share kind → d ≡ code_at n bs at A → Stands rs at p → Part at A d ys → ys ≡ unpacked n bs p at (share kind') (code_at n bs at (share kind'))
  one_part kind kind' at share A d ys p k e g h f = carry (λ o d. unpacked n bs p at o d) (λ o. code_at n bs at o) ys A (share kind') d (e ∙ ap share k) g (f p h)

  shifted : (kind kind' at at' : ℕ) (share : ℕ → Option (ℕ × ℕ)) (A : Option (ℕ × ℕ)) (d : ℕ) (ys : Reading) (p : Tree) → kind ≡ kind' → A ≡ share kind → d ≡ code_at n bs at A → at ≡ at' → Stands rs at' p → Part at A d ys → ys ≡ unpacked n bs p at' (share kind') (code_at n bs at' (share kind'))
  shifted kind kind' at at' share A d ys p k e g eq h f =
      let P : ℕ → Type 0 = λ i. Stands rs i p in
      one_part kind kind' at share A d ys p k e g (subst P (sym eq) h) f ∙ ap (λ i. unpacked n bs p i (share kind') (code_at n bs i (share kind'))) eq

  both : (ys zs us vs : Reading) → ys ≡ us → zs ≡ vs → o ∷ (ys ++ zs) ≡ o ∷ (us ++ vs)
  both ys zs us vs e f = ap (λ (r : Reading). o ∷ (r ++ zs)) e ∙ ap (λ (r : Reading). o ∷ (us ++ r)) f

  pub unpacked_pair : 1 < kind_at rs m → kind_at rs m ≤ 3 → (second : ℕ) → second ≡ m + 1 + get_or table (m + 1) 0 → (A B : Option (ℕ × ℕ)) (d e : ℕ) (ys zs : Reading)
      → A ≡ first_share (kind_at rs m) o c → B ≡ second_share (kind_at rs m) o c → d ≡ code_at n bs (m + 1) A → e ≡ code_at n bs second B
      → Part (m + 1) A d ys → Part second B e zs
      → (s : Tree) → Stands rs m s → o ∷ (ys ++ zs) ≡ unpacked n bs s m o c
  unpacked_pair l u second is A B d e ys zs ha hb hd he fy fz empty h = absurd (omega (arith, kind_is rs m empty h))
  unpacked_pair l u second is A B d e ys zs ha hb hd he fy fz (leaf lo hi) h = absurd (omega (arith, kind_is rs m (leaf lo hi) h))
  unpacked_pair l u second is A B d e ys zs ha hb hd he fy fz (choice p q) h =
      both ys zs _ _
      (one_part (kind_at rs m) 2 (m + 1) (λ k. first_share k o c) A d ys p (kind_is rs m (choice p q) h) ha hd (choice_first rs m p q h) fy)
      (shifted (kind_at rs m) 2 second (m + 1 + size p) (λ k. second_share k o c) B e zs q (kind_is rs m (choice p q) h) hb he
      (is ∙ ap (λ i. m + 1 + i) (sized.sizes (m + 1) p (omega arith) (choice_first rs m p q h))) (choice_second rs m p q h) fz)
  unpacked_pair l u second is A B d e ys zs ha hb hd he fy fz (sequence p q) h =
      both ys zs _ _
      (one_part (kind_at rs m) 3 (m + 1) (λ k. first_share k o c) A d ys p (kind_is rs m (sequence p q) h) ha hd (sequence_first rs m p q h) fy)
      (shifted (kind_at rs m) 3 second (m + 1 + size p) (λ k. second_share k o c) B e zs q (kind_is rs m (sequence p q) h) hb he
      (is ∙ ap (λ i. m + 1 + i) (sized.sizes (m + 1) p (omega arith) (sequence_first rs m p q h))) (sequence_second rs m p q h) fz)
  unpacked_pair l u second is A B d e ys zs ha hb hd he fy fz (star p) h = absurd (omega (arith, kind_is rs m (star p) h))

  pub unpacked_single : 3 < kind_at rs m → (ys : Reading) → Part (m + 1) None 0 ys → (s : Tree) → Stands rs m s → o ∷ ys ≡ unpacked n bs s m o c
  unpacked_single l ys f empty h = absurd (omega (arith, kind_is rs m empty h))
  unpacked_single l ys f (leaf lo hi) h = absurd (omega (arith, kind_is rs m (leaf lo hi) h))
  unpacked_single l ys f (choice p q) h = absurd (omega (arith, kind_is rs m (choice p q) h))
  unpacked_single l ys f (sequence p q) h = absurd (omega (arith, kind_is rs m (sequence p q) h))
  unpacked_single l ys f (star p) h = ap (λ (r : Reading). o ∷ r) (f p (star_part rs m p h))

  pub unpacked_alone : kind_at rs m ≤ 1 → (xs : Reading) → length xs ≡ get_or table m 0 → (s : Tree) → Stands rs m s → set xs 0 o ≡ unpacked n bs s m o c
  unpacked_alone l xs e empty h = written_none xs o (e ∙ sized.sizes m empty (omega arith) h)
  unpacked_alone l xs e (leaf lo hi) h = written_none xs o (e ∙ sized.sizes m (leaf lo hi) (omega arith) h)
  unpacked_alone l xs e (choice p q) h = absurd (omega (arith, kind_is rs m (choice p q) h))
  unpacked_alone l xs e (sequence p q) h = absurd (omega (arith, kind_is rs m (sequence p q) h))
  unpacked_alone l xs e (star p) h = absurd (omega (arith, kind_is rs m (star p) h))

-- no stretch: nothing in any entry
both_none : (p q : Tree) (x y : Reading) → x ≡ nothing p → y ≡ nothing q → None ∷ (x ++ y) ≡ None ∷ replicate (size p + size q) None
both_none p q x y e f = ap (λ (z : Reading). None ∷ (z ++ y)) e ∙ (ap (λ (z : Reading). None ∷ (nothing p ++ z)) f ∙ ap (λ (z : Reading). None ∷ z) (replicate-append-replicate (size p) (size q) None))

pub unpacked_none : (n : ℕ) (bs : List ℕ) (s : Tree) (m c : ℕ) → unpacked n bs s m None c ≡ nothing s
unpacked_none n bs empty m c = refl
unpacked_none n bs (leaf lo hi) m c = refl
unpacked_none n bs (choice p q) m c = both_none p q (unpacked n bs p (m + 1) None 0) (unpacked n bs q (m + 1 + size p) None 0) (unpacked_none n bs p (m + 1) 0) (unpacked_none n bs q (m + 1 + size p) 0)
unpacked_none n bs (sequence p q) m c = both_none p q (unpacked n bs p (m + 1) None 0) (unpacked n bs q (m + 1 + size p) None 0) (unpacked_none n bs p (m + 1) 0) (unpacked_none n bs q (m + 1 + size p) 0)
unpacked_none n bs (star p) m c = ap (λ (z : Reading). None ∷ z) (unpacked_none n bs p (m + 1) 0)
