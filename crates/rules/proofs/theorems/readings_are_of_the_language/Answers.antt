use Rattle.rules.proofs.ReadingFacts.{readings_exactly}
use Rattle.rules.proofs.theorems.readings_are_of_the_language.Goals as goal

pub returns : goal.returns
returns c = readings_exactly
