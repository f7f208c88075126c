use Rattle.positions.proofs.Linking.{Linked}
use Rattle.positions.proofs.sets.visit.link.Given as goal

abbrev pub invariant-loop-p : goal.invariant-loop-p
invariant-loop-p l = (goal.iterator-loop-p).can_next l.p-iterator × (goal.iterator-loop-p).is_finite l.p-iterator × Linked l.initial.follow l.set l.more l.p-iterator.0 l.follow
