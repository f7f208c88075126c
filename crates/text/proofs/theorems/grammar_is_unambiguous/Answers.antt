use Rattle.text.proofs.Derives.{one_tree}
use Rattle.text.proofs.theorems.grammar_is_unambiguous.Goals as goal

pub returns : goal.returns
returns c = λ b t u d e. one_tree d e
