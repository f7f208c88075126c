use Rattle.positions.proofs.Steps.{accepts_exactly}
use Rattle.positions.proofs.theorems.steps_are_the_language.Goals as goal

pub returns : goal.returns
returns c = accepts_exactly
