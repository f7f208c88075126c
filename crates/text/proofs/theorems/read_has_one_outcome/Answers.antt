use Rattle.text.proofs.Outcomes.{one_outcome}
use Rattle.text.proofs.theorems.read_has_one_outcome.Goals as goal

pub returns : goal.returns
returns c = one_outcome
