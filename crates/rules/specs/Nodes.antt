-- Where the rows of a node's tree stand among those of a rule. Assumes nothing.
use Rattle.std.specs.Prelude.{◌≡◌, ℕ, List, ◌++◌, drop}
use Rattle.rules.specs.declared.row.Row.{Row}
use Rattle.rules.specs.Trees.{Tree, rows}

-- the rows of s stand from row n on
pub record Stands (rs : List Row) (n : ℕ) (s : Tree) : Type 0 where
  pub rest : List Row
  pub is : drop n rs ≡ rows s ++ rest
