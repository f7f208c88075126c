-- The POSIX relation, on the stretches of a name. Assumes nothing.
use Rattle.std.specs.Prelude.{ℕ, suc, ◌<◌, ◌≤◌, List, [], ◌∷◌, ◌++◌, length}
use Rattle.rules.specs.Trees.{Tree, empty, leaf, choice, sequence, star}
use Rattle.rules.specs.Languages.{Sight, In, part}
use Rattle.rules.specs.Readings.{Reading, stretch, nothing}

-- the symbols of w from i up to j, read by the tree, derive the reading
pub data Posix (w : List Sight) : Tree → ℕ → ℕ → Reading → Type 0 where
  posix_empty : {i : ℕ} → i ≤ length w → Posix w empty i i (stretch i i ∷ [])
  posix_leaf : {lo hi i : ℕ} → i < length w → In (leaf lo hi) (part w i (suc i)) → Posix w (leaf lo hi) i (suc i) (stretch i (suc i) ∷ [])
  posix_star : {p : Tree} {i j : ℕ} → i ≤ j → j ≤ length w → In (star p) (part w i j) → Posix w (star p) i j (stretch i j ∷ nothing p)
  posix_first : {p q : Tree} {i j : ℕ} {r : Reading} → Posix w p i j r → Posix w (choice p q) i j (stretch i j ∷ (r ++ nothing q))
  posix_second : {p q : Tree} {i j : ℕ} {r : Reading} → Posix w q i j r → (In p (part w i j) → ⊥) → Posix w (choice p q) i j (stretch i j ∷ (nothing p ++ r))
  posix_sequence : {p q : Tree} {i k j : ℕ} {r s : Reading} → Posix w p i k r → Posix w q k j s
      → ((m : ℕ) → k < m → m ≤ j → In p (part w i m) → In q (part w m j) → ⊥)
      → Posix w (sequence p q) i j (stretch i j ∷ (r ++ s))
