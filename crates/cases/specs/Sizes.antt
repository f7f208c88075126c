-- How many nodes a tree has, how many rows the trees take that begin some rows, and how many entries readings have. Assumes nothing.
use Rattle.std.specs.Prelude.{◌≡◌, ℕ, zero, suc, ◌+◌, List, [], ◌∷◌, All, vec_len}
use Rattle.std.specs.declared.vec.Vec.{Vec}
use Rattle.rules.specs.declared.row.Row.{Row}
use Rattle.rules.specs.Checks.{parts}
use Rattle.cases.specs.declared.tree.Tree.{Tree}
use Rattle.cases.specs.declared.tree.Tree.TheVariants.{Empty, Leaf, Choice', Sequence', Star'}

-- the nodes of a tree
abbrev pub size : Tree → ℕ
size Empty = 1
size (Leaf lo hi) = 1
size (Choice' p first q second) = 1 + size first + size second
size (Sequence' p first q second) = 1 + size first + size second
size (Star' p part) = 1 + size part

-- each reading has n entries
abbrev pub EachHas : {A Z : Type 0} → ℕ → List (Vec A Z) → Type 0
EachHas n vs = All (λ r. vec_len r ≡ n) vs

-- how many rows the first trees have that begin these rows, or how many these are, if they end before
abbrev pub rows_taken : ℕ → List Row → ℕ
rows_taken n [] = 0
rows_taken zero (r ∷ rs) = 0
rows_taken (suc n) (r ∷ rs) = suc (rows_taken (n + parts r.kind) rs)
