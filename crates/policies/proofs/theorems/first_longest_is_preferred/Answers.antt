use Rattle.policies.proofs.FirstOrder.{first_prefers}
use Rattle.policies.proofs.theorems.first_longest_is_preferred.Goals as goal

pub returns : goal.returns
returns c = first_prefers
