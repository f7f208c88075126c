-- What is known of every frame: its rows are a rule's, and its sizes are right.
use Rattle.std.proofs.Common.{ℕ, ◌<◌, ◌≤◌, List, length, ap, ◌∙◌, arith}
use mathlib.Core.Logic.{∥∥₁_elim}
use native.Mathlib.Nat.{ℕ_set}
use Rattle.rules.specs.declared.row.Row.{Row}
use Rattle.rules.specs.declared.rule.Rule.{Rule}
use Rattle.rules.specs.RuleRows.{Ruled, rule_rows}
use Rattle.rules.proofs.OneTree.{ruled}
use Rattle.rules.proofs.RowFacts.{length_rows}
use Rattle.matcher.specs.declared.frame.Frame.{Frame}
use Rattle.matcher.specs.Frames.{frame_rows, frame_kind}
use Rattle.matcher.specs.Sizes.{Sized, Paired, PairRoom}
use Rattle.matcher.proofs.Nodes.{pair_room, single_room, SingleRoom}

-- that a table has the right sizes has one proof
sized_prop : (rs : List Row) (table : List ℕ) → IsProp (Sized rs table)
sized_prop rs table x y = λ i. record {
  long = ℕ_set _ _ x.long y.long i;
  sizes = λ m s b h. ℕ_set _ _ (x.sizes m s b h) (y.sizes m s b h) i;
}

pub record Framed (f : Frame) : Type 0 where
  pub tree : Ruled (frame_rows f)
  pub sizes : Sized (frame_rows f) f.sizes
  pub few : length (frame_rows f) ≤ 64

pub rule_ruled : (r : Rule) → Ruled (rule_rows r)
rule_ruled r = ruled r.rows r.len r.few r.tree

-- a rule has few rows
pub rule_few : (r : Rule) → length (rule_rows r) ≤ 64
rule_few r = let x = rule_ruled r in omega (arith, ap length x.of ∙ length_rows x.tree, x.few)

pub framed : (f : Frame) → Framed f
framed f =
    let r = rule_ruled f.rule.now in
    record { tree = r; sizes = ∥∥₁_elim f.sized (sized_prop (frame_rows f) f.sizes) (λ z. z); few = rule_few f.rule.now }

pub frame_pair : (f : Frame) (m : ℕ) → m < length (frame_rows f) → Paired (frame_kind f m) → PairRoom (frame_rows f) f.sizes m
frame_pair f m l k = let r = framed f in pair_room (frame_rows f) f.sizes m r.tree r.sizes l k.low k.high

pub frame_single : (f : Frame) (m : ℕ) → m < length (frame_rows f) → 3 < frame_kind f m → SingleRoom (frame_rows f) f.sizes m
frame_single f m l k = let r = framed f in single_room (frame_rows f) f.sizes m r.tree r.sizes l k
