use Rattle.rules.proofs.RowFacts.{few_leaves}
use Rattle.rules.proofs.theorems.rules_have_few_leaves.Goals as goal

pub returns : goal.returns
returns c = few_leaves
