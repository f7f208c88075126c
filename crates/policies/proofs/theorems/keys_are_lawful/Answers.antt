use Rattle.policies.specs.KeyOrder.{decided, replaced}
use Rattle.policies.proofs.theorems.keys_are_lawful.Goals as goal

pub returns : goal.returns
returns c key faithful = (decided faithful, replaced key)
