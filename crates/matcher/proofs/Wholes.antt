-- The whole name: the best reading of the first node is the rule's best.
use Rattle.std.proofs.Common.{◌≡◌, ℕ, ◌<◌, ◌≤◌, Bool, true, false, List, [], length, get_or, sym, ap, ◌∙◌, subst, inl, inr, append-nil, arith}
use Rattle.rules.specs.declared.row.Row.{Row}
use Rattle.rules.specs.Trees.{Tree, rows, Of, here}
use Rattle.rules.specs.RuleRows.{Ruled}
use Rattle.rules.specs.Languages.{Sight, In, part}
use Rattle.rules.specs.Readings.{Reading, stretch}
use Rattle.rules.proofs.Parts.{part_whole}
use Rattle.rules.proofs.RowFacts.{length_rows}
use Rattle.policies.specs.Orders.{Order, Best}
use Rattle.matcher.specs.declared.frame.Frame.{Frame}
use Rattle.rules.specs.Nodes.{Stands}
use Rattle.matcher.specs.Sizes.{Sized}
use Rattle.matcher.specs.Frames.{frame_rows, Blank, On}
use Rattle.matcher.specs.Unpacking.{cell, unpacked}
use Rattle.matcher.specs.Benches.{AtLeast, BestAt, Right}
use Rattle.matcher.specs.States.{Told, Settled}
use Rattle.rules.proofs.Nodes.{stands_within, size_positive}
use Rattle.matcher.proofs.Framed.{framed}
use Rattle.matcher.proofs.Bounds.{bound_stands}

root : (t : Tree) (rs : List Row) → Of rs t → Stands rs 0 t
root t rs e = record { rest = []; is = e ∙ sym (append-nil (rows t)) }

pub some_row : (rs : List Row) → Ruled rs → 0 < length rs
some_row rs r = omega (arith, ap length r.of, length_rows r.tree, size_positive r.tree)

pub root_size : (rs : List Row) (table : List ℕ) → Ruled rs → Sized rs table → get_or table 0 0 ≡ length rs
root_size rs table r z = z.sizes 0 r.tree (omega arith) (root r.tree rs r.of) ∙ (sym (length_rows r.tree) ∙ ap length (sym r.of))

strict : (above : Order) (rs : List Row) (m : ℕ) (x y : Reading) → AtLeast above rs m x y → (y ≡ x → ⊥) → above rs m x y ≡ true
strict above rs m x y (inl e) f = absurd (f (sym e))
strict above rs m x y (inr h) f = h

pub root_on : (f : Frame) → On f (record { node = 0; start = 0; end = f.symbols })
root_on f = record { node = some_row (frame_rows f) (framed f).tree; start = omega arith; end = omega arith }

module _ (above : Order) (f : Frame) (w : List Sight) (bs : List ℕ) (none : Blank f bs) where
  blank : (m i j : ℕ) (s : Tree) → Stands (frame_rows f) m s → i ≤ j → j ≤ f.symbols → cell f.symbols bs m i j ≡ 0
  blank m i j s h l u = none (record { node = m; start = i; end = j }) (record { node = omega (arith, stands_within (frame_rows f) m s h, size_positive s); start = l; end = u })

  pub blank_right : Right above (frame_rows f) w f.symbols bs
  blank_right = record {
    sound = record {
      has = λ m i j s h l u x y. absurd (x (blank m i j s h l u));
      lacks = λ m i j s h l u x y. absurd (omega (arith, blank m i j s h l u, x));
    };
    solved = record { at = λ t e m i j s b l u x y. absurd (omega (arith, blank m i j s (bound_stands (frame_rows f) t s m e b) l u, x)) };
  }

module _ (above : Order) (rs : List Row) (w : List Sight) (n : ℕ) (bs one : List ℕ) (long : length w ≡ n) where
  pub whole_lost : (r : Bool) → r ≡ false → Told rs w n bs one 0 0 n r → (t : Tree) → Of rs t → In t w → ⊥
  whole_lost r f told t e h =
      let p : part w 0 n ≡ w = ap (λ k. part w 0 k) (sym long) ∙ part_whole w in
      let P : List Sight → Type 0 = λ x. In t x in
      (told.says t (root t rs e)).lacks f (subst P (sym p) h)

  pub whole_found : (c : ℕ) → c ≡ cell n one 0 0 n → Settled above rs w n bs one 0 0 n → (x : Reading) → ((s : Tree) → Stands rs 0 s → x ≡ unpacked n one s 0 (stretch 0 n) c) → (t : Tree) → Of rs t → Best above t w x
  whole_found c code s x g t e =
      let b = (s.right.solved.at t e 0 0 n t here (omega arith) (omega arith) s.some s.small).best in
      let eq : x ≡ unpacked n one t 0 (stretch 0 n) (cell n one 0 0 n) = g t (root t rs e) ∙ ap (λ d. unpacked n one t 0 (stretch 0 n) d) code in
      let P : Reading → Type 0 = λ v. BestAt above t w t 0 0 n v in
      let h = subst P (sym eq) b in
      let Q : ℕ → Type 0 = λ k. BestAt above t w t 0 0 k x in
      let k = subst Q (sym long) h in
      record { reads = k.reads; outranks = λ y ry ne. strict above (rows t) 0 x y (k.outranks y ry) ne }
