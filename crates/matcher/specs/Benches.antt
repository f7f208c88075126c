-- What the bench means: a cell holds 0 while nothing is known of it, 255 if its node lacks its stretch, 254 if the node has it,
-- and else the code of the best reading. Assumes nothing.
use Rattle.std.specs.Prelude.{◌≡◌, ℕ, ◌+◌, ◌*◌, ◌<◌, ◌≤◌, true, ◌⊎◌, List, length, ◌≢◌, slice_index}
use Rattle.rules.specs.declared.row.Row.{Row}
use Rattle.rules.specs.Trees.{Tree, rows, Of, Bound}
use Rattle.rules.specs.Languages.{Sight, In, part}
use Rattle.rules.specs.Readings.{Reading, Reads, stretch}
use Rattle.policies.specs.Orders.{Order}
use Rattle.rules.specs.Nodes.{Stands}
use Rattle.matcher.specs.Unpacking.{cell, unpacked}

-- the bench has a cell for each node and stretch
pub record Room (nodes n : ℕ) (bs : List ℕ) : Type 0 where
  pub nodes_few : nodes ≤ 64
  pub name_short : n ≤ 120
  pub cells : nodes * (n + 1) * (n + 1) ≤ length bs

-- what the cells say of the languages is right
pub record Sound (rs : List Row) (w : List Sight) (n : ℕ) (bs : List ℕ) : Type 0 where
  pub has : (m i j : ℕ) (s : Tree) → Stands rs m s → i ≤ j → j ≤ n → (cell n bs m i j ≢ 0) → (cell n bs m i j ≢ 255) → In s (part w i j)
  pub lacks : (m i j : ℕ) (s : Tree) → Stands rs m s → i ≤ j → j ≤ n → cell n bs m i j ≡ 255 → In s (part w i j) → ⊥

-- what was put into the bench are marks, where nothing was known
pub record Marked (bs bs' : List ℕ) : Type 0 where
  pub at : (a : ℕ) → (slice_index bs' a ≡ slice_index bs a) ⊎ ((slice_index bs a ≡ 0) × (254 ≤ slice_index bs' a))

-- every code is still there
pub record Grown (bs bs' : List ℕ) : Type 0 where
  pub at : (a : ℕ) → 0 < slice_index bs a → slice_index bs a < 254 → slice_index bs' a ≡ slice_index bs a

-- x is y, or outranks it
abbrev pub AtLeast : Order → List Row → ℕ → Reading → Reading → Type 0
AtLeast above rs m x y = (x ≡ y) ⊎ (above rs m x y ≡ true)

-- x reads the stretch by the tree s at node m of t, and is at least every reading of it
pub record BestAt (above : Order) (t : Tree) (w : List Sight) (s : Tree) (m i j : ℕ) (x : Reading) : Type 0 where
  pub reads : Reads w s i j x
  pub outranks : (y : Reading) → Reads w s i j y → AtLeast above (rows t) m x y

-- the code of a node's stretch stands for the best reading, whatever more is put into the bench
pub record Held (above : Order) (t : Tree) (w : List Sight) (n : ℕ) (bs : List ℕ) (s : Tree) (m i j c : ℕ) : Type 0 where
  pub best : BestAt above t w s m i j (unpacked n bs s m (stretch i j) c)
  pub fixed : (bs' : List ℕ) → Grown bs bs' → unpacked n bs s m (stretch i j) c ≡ unpacked n bs' s m (stretch i j) c

-- every code in the bench stands for the best reading
pub record Solved (above : Order) (rs : List Row) (w : List Sight) (n : ℕ) (bs : List ℕ) : Type 0 where
  pub at : (t : Tree) → Of rs t → (m i j : ℕ) (s : Tree) → Bound t m s → i ≤ j → j ≤ n → 0 < cell n bs m i j → cell n bs m i j < 254 → Held above t w n bs s m i j (cell n bs m i j)

-- the bench is right
pub record Right (above : Order) (rs : List Row) (w : List Sight) (n : ℕ) (bs : List ℕ) : Type 0 where
  pub sound : Sound rs w n bs
  pub solved : Solved above rs w n bs
