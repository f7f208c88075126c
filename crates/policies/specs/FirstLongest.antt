-- The first-and-longest relation, on the stretches of a name. Assumes nothing.
use Rattle.std.specs.Prelude.{ℕ, suc, ◌<◌, ◌≤◌, List, [], ◌∷◌, ◌++◌, length}
use Rattle.rules.specs.Trees.{Tree, empty, leaf, choice, sequence, star}
use Rattle.rules.specs.Languages.{Sight, In, part}
use Rattle.rules.specs.Readings.{Reading, stretch, nothing}

mutual
  -- the symbols of w from i up to j, read by the tree, derive the reading
  pub data First (w : List Sight) : Tree → ℕ → ℕ → Reading → Type 0 where
    first_empty : {i : ℕ} → i ≤ length w → First w empty i i (stretch i i ∷ [])
    first_leaf : {lo hi i : ℕ} → i < length w → In (leaf lo hi) (part w i (suc i)) → First w (leaf lo hi) i (suc i) (stretch i (suc i) ∷ [])
    first_star : {p : Tree} {i j : ℕ} → i ≤ j → j ≤ length w → In (star p) (part w i j) → First w (star p) i j (stretch i j ∷ nothing p)
    first_first : {p q : Tree} {i j : ℕ} {r : Reading} → First w p i j r → First w (choice p q) i j (stretch i j ∷ (r ++ nothing q))
    first_second : {p q : Tree} {i j : ℕ} {r : Reading} → First w q i j r → (In p (part w i j) → ⊥) → First w (choice p q) i j (stretch i j ∷ (nothing p ++ r))
    first_sequence : {p q : Tree} {i k j : ℕ} {r s : Reading} → Pair w p q i k j r s → First w (sequence p q) i j (stretch i j ∷ (r ++ s))

  -- p followed by q: p takes the symbols from i up to k with the reading r, and q those from k up to j with s
  pub data Pair (w : List Sight) : Tree → Tree → ℕ → ℕ → ℕ → Reading → Reading → Type 0 where
    pair_empty : {q : Tree} {i j : ℕ} {s : Reading} → First w q i j s → Pair w empty q i i j (stretch i i ∷ []) s
    pair_leaf : {lo hi i j : ℕ} {q : Tree} {s : Reading} → In (leaf lo hi) (part w i (suc i)) → First w q (suc i) j s → Pair w (leaf lo hi) q i (suc i) j (stretch i (suc i) ∷ []) s
    pair_first : {p o q : Tree} {i k j : ℕ} {r s : Reading} → Pair w p q i k j r s → Pair w (choice p o) q i k j (stretch i k ∷ (r ++ nothing o)) s
    pair_second : {p o q : Tree} {i k j : ℕ} {r s : Reading} → Pair w o q i k j r s → (In (sequence p q) (part w i j) → ⊥) → Pair w (choice p o) q i k j (stretch i k ∷ (nothing p ++ r)) s
    pair_sequence : {p o q : Tree} {i h k j : ℕ} {r s u v : Reading} → Pair w p (sequence o q) i h j r u → Pair w o q h k j s v → Pair w (sequence p o) q i k j (stretch i k ∷ (r ++ s)) v
    pair_star : {p q : Tree} {i k j : ℕ} {s : Reading} → i ≤ k → In (star p) (part w i k) → First w q k j s
        → ((m : ℕ) → k < m → m ≤ j → In (star p) (part w i m) → In q (part w m j) → ⊥)
        → Pair w (star p) q i k j (stretch i k ∷ nothing p) s
