-- The table of the sizes of a rule's nodes. Assumes nothing.
use Rattle.std.specs.Prelude.{◌≡◌, ℕ, ◌+◌, ◌<◌, ◌≤◌, List, length, slice_index}
use Rattle.rules.specs.declared.row.Row.{Row}
use Rattle.rules.specs.Nodes.{Stands}
use Rattle.rules.specs.Trees.{Tree, size}

-- the table holds the size of each node's tree from row b on
pub record SizedFrom (rs : List Row) (b : ℕ) (table : List ℕ) : Type 0 where
  pub long : length table ≡ 64
  pub sizes : (m : ℕ) (s : Tree) → b ≤ m → Stands rs m s → slice_index table m ≡ size s

-- the table holds the size of every node's tree
abbrev pub Sized : List Row → List ℕ → Type 0
Sized rs table = SizedFrom rs 0 table

-- the number of a kind with two parts
pub record Paired (n : ℕ) : Type 0 where
  pub low : 1 < n
  pub high : n ≤ 3

-- the sizes at a node with two parts: its own, and that both parts are there
pub record PairRoom (rs : List Row) (table : List ℕ) (m : ℕ) : Type 0 where
  pub own : slice_index table m ≡ 1 + slice_index table (m + 1) + slice_index table (m + 1 + slice_index table (m + 1))
  pub first_some : 0 < slice_index table (m + 1)
  pub second_some : 0 < slice_index table (m + 1 + slice_index table (m + 1))
  pub within : m + 1 + slice_index table (m + 1) + slice_index table (m + 1 + slice_index table (m + 1)) ≤ length rs
