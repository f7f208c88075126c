-- A rule is a tree, kept as the list of its nodes' rows: a node, then its first part's rows, then its second's. Assumes nothing.
use Rattle.std.specs.Prelude.{◌≡◌, ℕ, suc, ◌+◌, List, [], ◌∷◌, ◌++◌}
use Rattle.rules.specs.declared.row.Row.{Row}

pub data Tree : Type 0 where
  empty : Tree
  leaf : ℕ → ℕ → Tree
  choice : Tree → Tree → Tree
  sequence : Tree → Tree → Tree
  star : Tree → Tree

-- a row of a kind with its two numbers
abbrev pub row : ℕ → ℕ → ℕ → Row
row kind lo hi = record { kind = kind; lo = lo; hi = hi }

-- the rows of a tree, in node order
abbrev pub rows : Tree → List Row
rows empty = row 0 0 0 ∷ []
rows (leaf lo hi) = row 1 lo hi ∷ []
rows (choice p q) = row 2 0 0 ∷ (rows p ++ rows q)
rows (sequence p q) = row 3 0 0 ∷ (rows p ++ rows q)
rows (star p) = row 4 0 0 ∷ rows p

-- how many nodes a tree has
abbrev pub size : Tree → ℕ
size empty = 1
size (leaf lo hi) = 1
size (choice p q) = suc (size p + size q)
size (sequence p q) = suc (size p + size q)
size (star p) = suc (size p)

-- these rows are those of this tree
abbrev pub Of : List Row → Tree → Type 0
Of rs t = rs ≡ rows t

-- how many leaves a tree has, those under stars too
abbrev pub leaves : Tree → ℕ
leaves empty = 0
leaves (leaf lo hi) = 1
leaves (choice p q) = leaves p + leaves q
leaves (sequence p q) = leaves p + leaves q
leaves (star p) = leaves p

-- s stands at node n of t, with no star above it
pub data Bound : Tree → ℕ → Tree → Type 0 where
  here : {t : Tree} → Bound t 0 t
  choice_first : {p q s : Tree} {n : ℕ} → Bound p n s → Bound (choice p q) (suc n) s
  choice_second : {p q s : Tree} {n : ℕ} → Bound q n s → Bound (choice p q) (suc (size p + n)) s
  sequence_first : {p q s : Tree} {n : ℕ} → Bound p n s → Bound (sequence p q) (suc n) s
  sequence_second : {p q s : Tree} {n : ℕ} → Bound q n s → Bound (sequence p q) (suc (size p + n)) s
