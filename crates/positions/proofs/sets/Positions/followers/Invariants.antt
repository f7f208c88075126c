use Rattle.positions.proofs.Loops.{FollowersLeft}
use Rattle.positions.proofs.sets.Positions.followers.Given as goal

abbrev pub invariant-loop-p : goal.invariant-loop-p
invariant-loop-p l =
    (goal.iterator-loop-p).can_next l.p-iterator × (goal.iterator-loop-p).is_finite l.p-iterator × FollowersLeft l.self.follow l.set l.next l.p-iterator.0
