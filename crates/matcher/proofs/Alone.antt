-- The best code of a node that has but one reading on a stretch.
use Rattle.std.proofs.Common.{◌≡◌, ℕ, suc, ◌+◌, ◌≤◌, List, [], ◌∷◌, length, sym, refl, ap, ◌∙◌, subst, inl, arith}
use Rattle.rules.specs.declared.row.Row.{Row}
use Rattle.rules.specs.Trees.{Tree, empty, leaf, choice, sequence, star, Of, Bound}
use Rattle.rules.specs.Languages.{Sight, In, part}
use Rattle.rules.specs.Readings.{Reading, Reads, reads_empty, reads_leaf, reads_star, stretch, nothing}
use Rattle.rules.proofs.Parts.{empty_part, leaf_part}
use Rattle.rules.proofs.ReadingFacts.{ReadsCases, reads_cases}
use Rattle.policies.specs.Orders.{Order}
use Rattle.rules.specs.Nodes.{Stands}
use Rattle.matcher.specs.Unpacking.{unpacked}
use Rattle.matcher.specs.Benches.{BestAt, Right}
use Rattle.matcher.specs.States.{Present, Got}
use Rattle.matcher.proofs.Nodes.{kind_at, kind_is}
use Rattle.matcher.proofs.Bounds.{bound_stands}
use Rattle.matcher.proofs.Unpacked.{unpacked_none}
use Rattle.matcher.proofs.Marks.{grown_same}

reads_nothing : (w : List Sight) (i j : ℕ) → i ≤ length w → i ≡ j → Reads w empty i j (stretch i j ∷ [])
reads_nothing w i j l e = let P : ℕ → Type 0 = λ k. Reads w empty i k (stretch i k ∷ []) in subst P e (reads_empty l)

reads_symbol : (w : List Sight) (lo hi i j : ℕ) → j ≤ length w → j ≡ suc i → In (leaf lo hi) (part w i j) → Reads w (leaf lo hi) i j (stretch i j ∷ [])
reads_symbol w lo hi i j l e h =
    let P : ℕ → Type 0 = λ k. Reads w (leaf lo hi) i k (stretch i k ∷ []) in
    let Q : ℕ → Type 0 = λ k. In (leaf lo hi) (part w i k) in
    subst P (sym e) (reads_leaf (omega arith) (subst Q e h))

module _ (above : Order) (rs : List Row) (w : List Sight) (n : ℕ) (bs : List ℕ) (m i j : ℕ) (l : i ≤ j) (u : j ≤ n) (long : length w ≡ n) (x : kind_at rs m ≡ 2 → ⊥) (y : kind_at rs m ≡ 3 → ⊥) (present : Present rs w m i j) where
  alone_best : (t : Tree) → Of rs t → (s : Tree) → Bound t m s → BestAt above t w s m i j (unpacked n bs s m (stretch i j) 1)
  alone_best t e empty b =
      let h : i ≡ j = empty_part w i j l (omega arith) (present empty (bound_stands rs t empty m e b)) in
      record { reads = reads_nothing w i j (omega arith) h; outranks = λ v rv. let c : ReadsCases w empty i j v = reads_cases rv in inl (sym c.1) }
  alone_best t e (leaf lo hi) b =
      let g = present (leaf lo hi) (bound_stands rs t (leaf lo hi) m e b) in
      record { reads = reads_symbol w lo hi i j (omega arith) (leaf_part w lo hi i j l (omega arith) g) g; outranks = λ v rv. let c : ReadsCases w (leaf lo hi) i j v = reads_cases rv in inl (sym c.1) }
  alone_best t e (choice p q) b = absurd (x (kind_is rs m (choice p q) (bound_stands rs t (choice p q) m e b)))
  alone_best t e (sequence p q) b = absurd (y (kind_is rs m (sequence p q) (bound_stands rs t (sequence p q) m e b)))
  alone_best t e (star p) b =
      let g = present (star p) (bound_stands rs t (star p) m e b) in
      let q : unpacked n bs (star p) m (stretch i j) 1 ≡ stretch i j ∷ nothing p = ap (λ (v : Reading). stretch i j ∷ v) (unpacked_none n bs p (m + 1) 0) in
      let P : Reading → Type 0 = λ v. Reads w (star p) i j v in
      record { reads = subst P (sym q) (reads_star l (omega arith) g); outranks = λ v rv. let c : ReadsCases w (star p) i j v = reads_cases rv in inl (q ∙ sym c.3) }

  alone_fixed : (bs' : List ℕ) (s : Tree) → Stands rs m s → unpacked n bs s m (stretch i j) 1 ≡ unpacked n bs' s m (stretch i j) 1
  alone_fixed bs' empty h = refl
  alone_fixed bs' (leaf lo hi) h = refl
  alone_fixed bs' (choice p q) h = absurd (x (kind_is rs m (choice p q) h))
  alone_fixed bs' (sequence p q) h = absurd (y (kind_is rs m (sequence p q) h))
  alone_fixed bs' (star p) h = ap (λ (z : Reading). stretch i j ∷ z) (unpacked_none n bs p (m + 1) 0 ∙ sym (unpacked_none n bs' p (m + 1) 0))

  pub alone_got : Right above rs w n bs → Got above rs w n bs bs m i j 1
  alone_got right = record {
    right = right;
    grown = grown_same bs;
    coded = record { some = omega arith; small = omega arith; held = λ t e s b. record { best = alone_best t e s b; fixed = λ bs' _. alone_fixed bs' s (bound_stands rs t s m e b) } };
  }
