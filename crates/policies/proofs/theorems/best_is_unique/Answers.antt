use Rattle.policies.proofs.Uniques.{best_unique}
use Rattle.policies.proofs.theorems.best_is_unique.Goals as goal

pub returns : goal.returns
returns c = best_unique
