-- The theorems of this crate; each is the contract of a function. Assumes nothing.
use Rattle.std.specs.Prelude.{◌≡◌, ℕ, ◌≤◌, ◌↔◌, List, length}
use Rattle.rules.specs.Trees.{Tree, size}
use Rattle.rules.specs.Languages.{Sight, In}
use Rattle.rules.specs.Readings.{Reading}
use Rattle.policies.specs.Orders.{Order, Decided, Replaced, Best}
use Rattle.policies.specs.Keys.{Key, Faithful, above_by, posix_above, first_above}
use Rattle.policies.specs.Posix.{Posix}
use Rattle.policies.specs.FirstLongest.{First}

-- the order of every faithful key keeps both laws
abbrev pub KeysLawful : Type 0
KeysLawful = (key : Key) → Faithful key → Decided (above_by key) × Replaced (above_by key)

-- name, tree, stretch and reading
abbrev pub Relation : Type 1
Relation = List Sight → Tree → ℕ → ℕ → Reading → Type 0

-- the relation derives exactly the reading that the order prefers, at most one on a stretch, and one for each of the tree's names and no other
pub record Prefers (above : Order) (derives : Relation) : Type 0 where
  pub best : (t : Tree) (w : List Sight) (r : Reading) → derives w t 0 (length w) r ↔ Best above t w r
  pub unique : (t : Tree) (w : List Sight) (i j : ℕ) (x y : Reading) → derives w t i j x → derives w t i j y → x ≡ y
  pub derived : (t : Tree) (w : List Sight) → In t w ↔ ((r : Reading) × derives w t 0 (length w) r)

-- the POSIX relation goes with the POSIX order
abbrev pub PosixPreferred : Type 0
PosixPreferred = Prefers posix_above Posix

-- the first-and-longest relation goes with the first-and-longest order
abbrev pub FirstPreferred : Type 0
FirstPreferred = Prefers first_above First

-- an order that is decided has at most one best reading of a name by a rule
abbrev pub BestUnique : Type 0
BestUnique = (above : Order) → Decided above → (t : Tree) → size t ≤ 64 → (w : List Sight) (x y : Reading) → Best above t w x → Best above t w y → x ≡ y
