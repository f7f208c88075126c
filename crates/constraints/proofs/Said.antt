-- What is printed of a reading, entry by entry.
use Rattle.std.proofs.Common.{◌≡◌, ℕ, zero, suc, ◌+◌, ◌<◌, List, [], ◌∷◌, ◌++◌, length, get_or, take, drop, replicate, None, Option, sym, refl, ap, ◌∙◌, ap₂, append_assoc, append-nil, arith}
use Rattle.rules.specs.Readings.{Reading}
use Rattle.constraints.specs.Printed.{entry_said, entries_said}

one_more : (n : ℕ) (r : Reading) (i : ℕ) → i < length r → entries_said n (take (suc i) r) ≡ entries_said n (take i r) ++ entry_said (n + i) (get_or r i None)
one_more n [] i h = absurd (omega arith)
one_more n (e ∷ r) zero h = append-nil (entry_said n e) ∙ ap (λ (k : ℕ). entry_said k e) (omega arith)
one_more n (e ∷ r) (suc i) h =
    let k : suc n + i ≡ n + suc i = omega arith in
    ap (λ (x : List ℕ). entry_said n e ++ x) (one_more (suc n) r i (omega arith) ∙ ap (λ (j : ℕ). entries_said (suc n) (take i r) ++ entry_said j (get_or r i None)) k)
    ∙ sym (append_assoc (entry_said n e) (entries_said (suc n) (take i r)) (entry_said (n + suc i) (get_or r i None)))

-- a turn of the loop: the entry of one more node
pub entry_added : (base old new : List ℕ) (r : Reading) (i : ℕ) (o : Option (ℕ × ℕ)) → i < length r → old ≡ base ++ entries_said 0 (take i r) → get_or r i None ≡ o → new ≡ old ++ entry_said i o → new ≡ base ++ entries_said 0 (take (i + 1) r)
entry_added base old new r i o h a e b =
    let k : i + 1 ≡ suc i = omega arith in
    let z : 0 + i ≡ i = omega arith in
    b ∙ ap₂ (λ (x : List ℕ) (y : Option (ℕ × ℕ)). x ++ entry_said i y) a (sym e) ∙ append_assoc base (entries_said 0 (take i r)) (entry_said i (get_or r i None))
    ∙ ap (λ (x : List ℕ). base ++ x) (ap (λ (j : ℕ). entries_said 0 (take i r) ++ entry_said j (get_or r i None)) (sym z) ∙ sym (one_more 0 r i h) ∙ ap (λ (j : ℕ). entries_said 0 (take j r)) (sym k))

-- entries with nothing print nothing
nothing_said : (n m k : ℕ) → entries_said n (drop m (replicate k None)) ≡ []
nothing_said n zero zero = refl
nothing_said n zero (suc k) = nothing_said (suc n) zero k
nothing_said n (suc m) zero = refl
nothing_said n (suc m) (suc k) = nothing_said n m k

entries_joined : (n : ℕ) (x y : Reading) → ((m : ℕ) → entries_said m y ≡ []) → entries_said n (x ++ y) ≡ entries_said n x
entries_joined n [] y h = h n
entries_joined n (e ∷ x) y h = ap (λ (z : List ℕ). entry_said n e ++ z) (entries_joined (suc n) x y h)

-- a report that held nothing before says no more than the reading in it
pub reading_said : (x report' : Reading) (m k : ℕ) → report' ≡ x ++ drop m (replicate k None) → entries_said 0 report' ≡ entries_said 0 x
reading_said x report' m k e = ap (λ (r : Reading). entries_said 0 r) e ∙ entries_joined 0 x (drop m (replicate k None)) (λ n. nothing_said n m k)
