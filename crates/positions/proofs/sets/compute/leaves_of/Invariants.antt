use Rattle.positions.proofs.Gathering.{Gathered}
use Rattle.positions.proofs.sets.compute.leaves_of.Given as goal

abbrev pub invariant-loop-row : goal.invariant-loop-row
invariant-loop-row l = Gathered l.rows l.row-index l.count l.leaves
