-- Rows that are put, moved and joined.
use Rattle.std.proofs.Common.{◌≡◌, ℕ, zero, suc, ◌+◌, ◌-◌, ◌<◌, ◌≤◌, ◌≢◌, List, [], ◌∷◌, ◌++◌, length, get_or, set, sym, refl, ap, ◌∙◌, arith, length-append, get_or-set_other, get_or-set_same}
use native.Mathlib.Decide.{dec_lt}
use Rattle.std.proofs.lemmas.List.{get_or_append_left, get_or-append_right}
use Rattle.rules.specs.declared.row.Row.{Row}
use Rattle.rules.specs.Trees.{row}
use Rattle.text.specs.Written.{Holds, Inserted}

-- where an index stands in two lists, one behind the other
pub at_left : (p q : List Row) (k : ℕ) → k < length p → get_or (p ++ q) k (row 0 0 0) ≡ get_or p k (row 0 0 0)
at_left p q k h = get_or_append_left p q (row 0 0 0) k h

pub at_right : (p q : List Row) (k : ℕ) → length p ≤ k → get_or (p ++ q) k (row 0 0 0) ≡ get_or q (k - length p) (row 0 0 0)
at_right p q k h = get_or-append_right p q (length p) k (row 0 0 0) refl h

later : (r : Row) (q : List Row) (m : ℕ) → 0 < m → get_or (r ∷ q) m (row 0 0 0) ≡ get_or q (m - 1) (row 0 0 0)
later r q zero h = absurd (omega arith)
later r q (suc m) h = let e : m ≡ suc m - 1 = omega arith in ap (λ (n : ℕ). get_or q n (row 0 0 0)) e

first : (r : Row) (q : List Row) (m : ℕ) → m ≡ 0 → get_or (r ∷ q) m (row 0 0 0) ≡ r
first r q m e = ap (λ (n : ℕ). get_or (r ∷ q) n (row 0 0 0)) e

-- the index of the place behind the front
seam : (p q : List Row) (r : Row) (k : ℕ) → k ≡ length p → get_or (p ++ (r ∷ q)) k (row 0 0 0) ≡ r
seam p q r k e = at_right p (r ∷ q) k (omega arith) ∙ first r q (k - length p) (omega arith)

behind : (p q : List Row) (r : Row) (j : ℕ) → length p ≤ j → get_or (p ++ (r ∷ q)) (j + 1) (row 0 0 0) ≡ get_or (p ++ q) j (row 0 0 0)
behind p q r j h =
    at_right p (r ∷ q) (j + 1) (omega arith)
    ∙ later r q (j + 1 - length p) (omega arith)
    ∙ ap (λ (n : ℕ). get_or q n (row 0 0 0)) (omega arith)
    ∙ sym (at_right p q j h)

pub holds_put : (old front : List Row) (at : ℕ) (r : Row) → length old ≡ 64 → length front ≡ at → Holds old front → Holds (set old at r) (front ++ (r ∷ []))
holds_put old front at r long e h k less room = by_cases (dec_lt k at)
  where
    by_cases : Dec (k < at) → get_or (set old at r) k (row 0 0 0) ≡ get_or (front ++ (r ∷ [])) k (row 0 0 0)
    by_cases (yes l) =
        let n : k ≢ at = omega arith in
        get_or-set_other old at k r (row 0 0 0) n ∙ h k (omega arith) room ∙ sym (at_left front (r ∷ []) k (omega arith))
    by_cases (no l) =
        let m : k ≡ at = omega (arith, simp length-append at less) in
        ap (λ (n : ℕ). get_or (set old at r) n (row 0 0 0)) m ∙ get_or-set_same old at r (row 0 0 0) (omega arith) ∙ sym (seam front [] r k (omega arith))

pub holds_insert : (old new front q : List Row) (at end : ℕ) (r : Row) → Inserted old at end r new → length front ≡ at → length (front ++ q) ≡ end → Holds old (front ++ q) → Holds new (front ++ (r ∷ q))
holds_insert old new front q at end r i e f h k less room = by_cases (dec_lt k at) (dec_lt at k)
  where
    by_cases : Dec (k < at) → Dec (at < k) → get_or new k (row 0 0 0) ≡ get_or (front ++ (r ∷ q)) k (row 0 0 0)
    by_cases (yes l) d =
        i.below k l room ∙ h k (simp length-append (omega arith)) room ∙ at_left front q k (omega arith) ∙ sym (at_left front (r ∷ q) k (omega arith))
    by_cases (no l) (no g) =
        let m : k ≡ at = omega arith in
        ap (λ (n : ℕ). get_or new n (row 0 0 0)) m ∙ i.here (omega arith) ∙ sym (seam front q r k (omega arith))
    by_cases (no l) (yes g) =
        let j : ℕ = k - 1 in
        let m : k ≡ j + 1 = omega arith in
        let b : j < end = omega (arith, simp length-append at less, simp length-append at f) in
        let s : get_or new k (row 0 0 0) ≡ get_or new (j + 1) (row 0 0 0) = ap (λ (n : ℕ). get_or new n (row 0 0 0)) m in
        let s2 : get_or new (j + 1) (row 0 0 0) ≡ get_or old j (row 0 0 0) = i.above j (omega arith) b (omega arith) in
        let s3 : get_or old j (row 0 0 0) ≡ get_or (front ++ q) j (row 0 0 0) = h j (omega arith) (omega arith) in
        s ∙ s2 ∙ s3 ∙ sym (behind front q r j (omega arith)) ∙ ap (λ (n : ℕ). get_or (front ++ (r ∷ q)) n (row 0 0 0)) (sym m)
