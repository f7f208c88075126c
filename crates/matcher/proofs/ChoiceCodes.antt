-- The best code of a choice, from the codes of its parts.
use Rattle.std.proofs.Common.{◌≡◌, ℕ, ◌+◌, ◌<◌, ◌≤◌, ◌⊎◌, List, ◌∷◌, ◌++◌, sym, ap, ◌∙◌, subst, inl, inr}
use Rattle.rules.specs.Trees.{Tree, choice, size, rows, Bound}
use Rattle.rules.specs.Languages.{Sight, In, part}
use Rattle.rules.specs.Readings.{Reading, Reads, reads_first, reads_second, stretch, nothing}
use Rattle.rules.proofs.ReadingFacts.{ReadsCases, reads_cases, reads_in}
use Rattle.policies.specs.Orders.{Order, Decided, Replaced}
use Rattle.matcher.specs.Unpacking.{cell, unpacked}
use Rattle.matcher.specs.Benches.{Grown, AtLeast, BestAt, Held}
use Rattle.matcher.specs.States.{Kept}
use Rattle.matcher.proofs.Unpacked.{unpacked_none}
use Rattle.matcher.proofs.Lifts.{trans, same_left, same_right, lift_first, lift_second}
use Rattle.matcher.proofs.Firm.{part_fixed}

cases : (w : List Sight) (p q : Tree) (i j : ℕ) (y : Reading) → Reads w (choice p q) i j y → ReadsCases w (choice p q) i j y
cases w p q i j y h = reads_cases h

module _ (above : Order) (decided : Decided above) (replaced : Replaced above) (t : Tree) (few : size t ≤ 64) (w : List Sight) (m i j : ℕ) (p q : Tree) (bound : Bound t m (choice p q)) (n : ℕ) where
  abbrev a : ℕ
  a = m + 1

  abbrev b : ℕ
  b = m + 1 + size p

  abbrev xp : List ℕ → Reading
  xp bs = unpacked n bs p a (stretch i j) (cell n bs a i j)

  abbrev xq : List ℕ → Reading
  xq bs = unpacked n bs q b (stretch i j) (cell n bs b i j)

  abbrev code : List ℕ → ℕ → Reading
  code bs r = unpacked n bs (choice p q) m (stretch i j) r

  first_is : (bs : List ℕ) → code bs 1 ≡ stretch i j ∷ (xp bs ++ nothing q)
  first_is bs = ap (λ (z : Reading). stretch i j ∷ (xp bs ++ z)) (unpacked_none n bs q b 0)

  second_is : (bs : List ℕ) → code bs 2 ≡ stretch i j ∷ (nothing p ++ xq bs)
  second_is bs = ap (λ (z : Reading). stretch i j ∷ (z ++ xq bs)) (unpacked_none n bs p a 0)

  module _ (bs : List ℕ) where
    abbrev HeldFirst : Type 0
    HeldFirst = (0 < cell n bs a i j) × (cell n bs a i j < 254) × Held above t w n bs p a i j (cell n bs a i j)

    abbrev HeldSecond : Type 0
    HeldSecond = (0 < cell n bs b i j) × (cell n bs b i j < 254) × Held above t w n bs q b i j (cell n bs b i j)

    first_fixed : HeldFirst → (bs' : List ℕ) → Grown bs bs' → code bs 1 ≡ code bs' 1
    first_fixed h bs' g = first_is bs ∙ (ap (λ (z : Reading). stretch i j ∷ (z ++ nothing q)) (part_fixed above t w n bs bs' p a i j g h.0 h.1 h.2) ∙ sym (first_is bs'))

    second_fixed : HeldSecond → (bs' : List ℕ) → Grown bs bs' → code bs 2 ≡ code bs' 2
    second_fixed h bs' g = second_is bs ∙ (ap (λ (z : Reading). stretch i j ∷ (nothing p ++ z)) (part_fixed above t w n bs bs' q b i j g h.0 h.1 h.2) ∙ sym (second_is bs'))

    pub reads_one : HeldFirst → Reads w (choice p q) i j (code bs 1)
    reads_one h = let P : Reading → Type 0 = λ z. Reads w (choice p q) i j z in subst P (sym (first_is bs)) (reads_first h.2.best.reads)

    pub reads_two : HeldSecond → Reads w (choice p q) i j (code bs 2)
    reads_two h = let P : Reading → Type 0 = λ z. Reads w (choice p q) i j z in subst P (sym (second_is bs)) (reads_second h.2.best.reads)

    over_one : HeldFirst → (y : Reading) → Reads w p i j y → AtLeast above (rows t) m (code bs 1) (stretch i j ∷ (y ++ nothing q))
    over_one h y r =
        same_left above decided replaced t few w m (stretch i j ∷ (xp bs ++ nothing q)) (code bs 1) (stretch i j ∷ (y ++ nothing q)) (sym (first_is bs))
        (lift_first above decided replaced t few w m i j p q bound (xp bs) y h.2.best.reads r (h.2.best.outranks y r))

    over_two : HeldSecond → (y : Reading) → Reads w q i j y → AtLeast above (rows t) m (code bs 2) (stretch i j ∷ (nothing p ++ y))
    over_two h y r =
        same_left above decided replaced t few w m (stretch i j ∷ (nothing p ++ xq bs)) (code bs 2) (stretch i j ∷ (nothing p ++ y)) (sym (second_is bs))
        (lift_second above decided replaced t few w m i j p q bound (xq bs) y h.2.best.reads r (h.2.best.outranks y r))

    gathered : (r : ℕ) → Reads w (choice p q) i j (code bs r)
        → ((y : Reading) → Reads w p i j y → AtLeast above (rows t) m (code bs r) (stretch i j ∷ (y ++ nothing q)))
        → ((y : Reading) → Reads w q i j y → AtLeast above (rows t) m (code bs r) (stretch i j ∷ (nothing p ++ y)))
        → BestAt above t w (choice p q) m i j (code bs r)
    gathered r rd f g = record {
      reads = rd;
      outranks = λ y h. elim (cases w p q i j y h) [
        | inl o ↦ same_right above decided replaced t few w m (code bs r) (stretch i j ∷ (o.0 ++ nothing q)) y (sym o.2) (f o.0 o.1)
        | inr o ↦ same_right above decided replaced t few w m (code bs r) (stretch i j ∷ (nothing p ++ o.0)) y (sym o.2) (g o.0 o.1)
      ];
    }

    pub only_first : HeldFirst → (In q (part w i j) → ⊥) → Held above t w n bs (choice p q) m i j 1
    only_first h f = record { best = gathered 1 (reads_one h) (over_one h) (λ y r. absurd (f (reads_in r))); fixed = first_fixed h }

    pub only_second : HeldSecond → (In p (part w i j) → ⊥) → Held above t w n bs (choice p q) m i j 2
    only_second h f = record { best = gathered 2 (reads_two h) (λ y r. absurd (f (reads_in r))) (over_two h); fixed = second_fixed h }

    module _ (h : HeldFirst) (k : HeldSecond) (r : ℕ) (kept : Kept above t w n bs (choice p q) m i j 1 2 r) where
      abbrev At : ℕ → Type 0
      At x = Reads w (choice p q) i j (code bs x)

      either_fixed : (r ≡ 1) ⊎ (r ≡ 2) → (bs' : List ℕ) → Grown bs bs' → code bs r ≡ code bs' r
      either_fixed (inl e) bs' g = let P : ℕ → Type 0 = λ x. code bs x ≡ code bs' x in subst P (sym e) (first_fixed h bs' g)
      either_fixed (inr e) bs' g = let P : ℕ → Type 0 = λ x. code bs x ≡ code bs' x in subst P (sym e) (second_fixed k bs' g)

      either_reads : (r ≡ 1) ⊎ (r ≡ 2) → At r
      either_reads (inl e) = subst At (sym e) (reads_one h)
      either_reads (inr e) = subst At (sym e) (reads_two k)

      pub better : (r ≡ 1) ⊎ (r ≡ 2) → Held above t w n bs (choice p q) m i j r
      better d = record {
        best = gathered r (either_reads d)
            (λ y ry. trans above decided replaced t few w m (choice p q) bound i j (code bs r) (code bs 1) (stretch i j ∷ (y ++ nothing q)) (either_reads d) (reads_one h) (reads_first ry) kept.old (over_one h y ry))
            (λ y ry. trans above decided replaced t few w m (choice p q) bound i j (code bs r) (code bs 2) (stretch i j ∷ (nothing p ++ y)) (either_reads d) (reads_two k) (reads_second ry) kept.new (over_two k y ry));
        fixed = either_fixed d;
      }
