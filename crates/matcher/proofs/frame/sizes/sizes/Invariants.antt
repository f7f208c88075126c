use Rattle.rules.specs.RuleRows.{rule_rows}
use Rattle.matcher.specs.Sizes.{SizedFrom}
use Rattle.matcher.proofs.frame.sizes.sizes.Given as goal

abbrev pub invariant-loop-node : goal.invariant-loop-node
invariant-loop-node l = SizedFrom (rule_rows l.rule) l.node l.sizes
