use Rattle.std.proofs.Common.{ℕ, ◌+◌, ◌-◌, ◌*◌, length}
use Rattle.matcher.specs.declared.frame.Frame.{Frame}
use Rattle.matcher.specs.declared.frame.Spot.{Spot}
use Rattle.matcher.specs.Frames.{frame_rows}
use Rattle.matcher.specs.Searches.{word, PreparedAt}
use Rattle.matcher.proofs.Turns.{Left}
use Rattle.matcher.proofs.search.Search.+solving.Given as goal

abbrev fall : Frame → Spot → ℕ
fall f s = ((length (frame_rows f) - s.node) * 122 + (s.end - s.start)) * 4

abbrev pub decreases-solve : goal.decreases-solve
decreases-solve g l = fall l.self.now.frame l.spot + 3

abbrev pub decreases-best_code : goal.decreases-best_code
decreases-best_code g l = fall l.self.now.frame l.spot + 2

abbrev pub decreases-best_part : goal.decreases-best_part
decreases-best_part g l = fall l.self.now.frame l.spot + 1

abbrev pub decreases-solve_splits : goal.decreases-solve_splits
decreases-solve_splits g l = fall l.self.now.frame l.spot + 1

abbrev pub invariant-solve_splits-loop-k : goal.invariant-solve_splits-loop-k
invariant-solve_splits-loop-k g l =
    Left l.initial.k-iterator l.k-iterator
    × PreparedAt (g.P.Policy.above l.self.policy.now) l.self.frame (word l.self) l.initial.bench l.bench l.fn.spot l.k-iterator.start
