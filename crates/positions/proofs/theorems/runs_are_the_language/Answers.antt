use Rattle.positions.proofs.Runs.{runs_exactly}
use Rattle.positions.proofs.theorems.runs_are_the_language.Goals as goal

pub returns : goal.returns
returns c = runs_exactly
