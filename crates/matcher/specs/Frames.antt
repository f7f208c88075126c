-- What a bench is laid out for, and the spots that it has cells for. Assumes nothing.
use Rattle.std.specs.Prelude.{◌≡◌, ℕ, ◌+◌, ◌<◌, ◌≤◌, List, length, slice_index, slice_index_or}
use Rattle.rules.specs.declared.row.Row.{Row}
use Rattle.rules.specs.Trees.{row}
use Rattle.rules.specs.RuleRows.{rule_rows}
use Rattle.matcher.specs.declared.frame.Frame.{Frame}
use Rattle.matcher.specs.declared.frame.Spot.{Spot}
use Rattle.matcher.specs.Benches.{Room}
use Rattle.matcher.specs.Unpacking.{place, cell}

-- the rows of a frame's rule
abbrev pub frame_rows : Frame → List Row
frame_rows f = rule_rows f.rule.now

-- the number of a node's kind
abbrev pub frame_kind : Frame → ℕ → ℕ
frame_kind f m = (slice_index_or (frame_rows f) m (row 0 0 0)).kind

-- the node of the second part of a choice or a sequence
abbrev pub second_node : Frame → ℕ → ℕ
second_node f m = m + 1 + slice_index f.sizes (m + 1)

-- the bench has a cell for each spot
abbrev pub Laid : Frame → List ℕ → Type 0
Laid f bs = Room (length (frame_rows f)) f.symbols bs

-- the spot has a cell: there is such a node, and the stretch lies in the name
pub record On (f : Frame) (s : Spot) : Type 0 where
  pub node : s.node < length (frame_rows f)
  pub start : s.start ≤ s.end
  pub end : s.end ≤ f.symbols

-- where the cell of a spot stands in the bench
abbrev pub spot_place : Frame → Spot → ℕ
spot_place f s = place f.symbols s.node s.start s.end

-- the cell of a spot
abbrev pub spot_cell : Frame → List ℕ → Spot → ℕ
spot_cell f bs s = cell f.symbols bs s.node s.start s.end

-- nothing is known of any spot
abbrev pub Blank : Frame → List ℕ → Type 0
Blank f bs = (s : Spot) → On f s → spot_cell f bs s ≡ 0
