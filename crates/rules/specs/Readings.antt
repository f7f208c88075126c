-- Readings: each node of a rule gets a stretch of the name, or nothing. Assumes nothing.
use Rattle.std.specs.Prelude.{ℕ, suc, ◌<◌, ◌≤◌, List, [], ◌∷◌, ◌++◌, length, replicate, Some, None, Option}
use Rattle.rules.specs.Trees.{Tree, empty, leaf, choice, sequence, star, size}
use Rattle.rules.specs.Languages.{Sight, In, part}

-- one entry for each node, in node order
abbrev pub Reading : Type 0
Reading = List (Option (ℕ × ℕ))

-- the entry of a node that takes the symbols from i up to j
abbrev pub stretch : ℕ → ℕ → Option (ℕ × ℕ)
stretch i j = Some (i, j)

-- nothing, for each node of a tree
abbrev pub nothing : Tree → Reading
nothing t = replicate (size t) None

-- the report row of an entry: its mark, start and end
abbrev pub report_row : Option (ℕ × ℕ) → ℕ × ℕ × ℕ
report_row None = (0, 0, 0)
report_row (Some s) = (1, s.0, s.1)

-- r reads t on the stretch of w from i up to j
pub data Reads (w : List Sight) : Tree → ℕ → ℕ → Reading → Type 0 where
  reads_empty : {i : ℕ} → i ≤ length w → Reads w empty i i (stretch i i ∷ [])
  reads_leaf : {lo hi i : ℕ} → i < length w → In (leaf lo hi) (part w i (suc i)) → Reads w (leaf lo hi) i (suc i) (stretch i (suc i) ∷ [])
  reads_first : {p q : Tree} {i j : ℕ} {r : Reading} → Reads w p i j r → Reads w (choice p q) i j (stretch i j ∷ (r ++ nothing q))
  reads_second : {p q : Tree} {i j : ℕ} {r : Reading} → Reads w q i j r → Reads w (choice p q) i j (stretch i j ∷ (nothing p ++ r))
  reads_sequence : {p q : Tree} {i k j : ℕ} {r s : Reading} → Reads w p i k r → Reads w q k j s → Reads w (sequence p q) i j (stretch i j ∷ (r ++ s))
  reads_star : {p : Tree} {i j : ℕ} → i ≤ j → j ≤ length w → In (star p) (part w i j) → Reads w (star p) i j (stretch i j ∷ nothing p)

-- a reading of the whole name
abbrev pub ReadsWhole : List Sight → Tree → Reading → Type 0
ReadsWhole w t r = Reads w t 0 (length w) r
