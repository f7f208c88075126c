use Rattle.std.proofs.Common.{ℕ, ◌+◌, ◌-◌, ◌*◌, max, length}
use Rattle.matcher.specs.declared.frame.Frame.{Frame}
use Rattle.matcher.specs.declared.frame.Spot.{Spot}
use Rattle.matcher.specs.Frames.{frame_rows}
use Rattle.matcher.specs.Searches.{word}
use Rattle.matcher.specs.States.{NoSplit, NoRound}
use Rattle.matcher.proofs.Turns.{Left}
use Rattle.matcher.proofs.search.Search.+membership.Given as goal

abbrev fall : Frame → Spot → ℕ
fall f s = ((length (frame_rows f) - s.node) * 122 + (s.end - s.start)) * 5

abbrev pub decreases-has : goal.decreases-has
decreases-has g l = fall l.self.now.frame l.spot + 3

abbrev pub decreases-has_anew : goal.decreases-has_anew
decreases-has_anew g l = fall l.self.now.frame l.spot + 2

abbrev pub decreases-has_either : goal.decreases-has_either
decreases-has_either g l = fall l.self.now.frame l.spot + 1

abbrev pub decreases-has_pair : goal.decreases-has_pair
decreases-has_pair g l = fall l.self.now.frame l.spot + 1

abbrev pub decreases-has_rounds : goal.decreases-has_rounds
decreases-has_rounds g l = fall l.self.now.frame l.spot + 1

abbrev pub decreases-has_both : goal.decreases-has_both
decreases-has_both g l = max (fall l.self.now.frame l.first) (fall l.self.now.frame l.second) + 4

abbrev pub invariant-has_pair-loop-k : goal.invariant-has_pair-loop-k
invariant-has_pair-loop-k g l =
    Left l.initial.k-iterator l.k-iterator
    × NoSplit (frame_rows l.self.frame) (word l.self) l.self.frame.symbols l.initial.bench l.bench l.fn.spot.node l.fn.spot.start l.fn.spot.end l.k-iterator.start

abbrev pub invariant-has_rounds-loop-k : goal.invariant-has_rounds-loop-k
invariant-has_rounds-loop-k g l = NoRound (frame_rows l.self.frame) (word l.self) l.self.frame.symbols l.initial.bench l.bench l.spot.node l.spot.start l.spot.end l.k
