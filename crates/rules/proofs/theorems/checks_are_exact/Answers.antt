use Rattle.rules.proofs.Shapes.{checked_exactly}
use Rattle.rules.proofs.theorems.checks_are_exact.Goals as goal

pub returns : goal.returns
returns c = checked_exactly
