use Rattle.rules.proofs.Decide.{decides}
use Rattle.rules.proofs.theorems.language_is_decided.Goals as goal

pub returns : goal.returns
returns c = decides
