use Rattle.std.proofs.Common.{arith}
use Rattle.session.specs.Served.{RulePrints, rule_read, rule_denied}
use Rattle.session.proofs.Prints.{silent, all_printed}
use Rattle.session.proofs.answers.serve_rule.Goals as goal

pub returns-in-Ok : goal.returns-in-Ok
returns-in-Ok c =
    let w = c.in-Ok.ensures in
    silent _ _ (rule_read w.short w.tree w.derived (omega (arith, w.few, w.counted)))

pub returns-in-Err : goal.returns-in-Err
returns-in-Err c = all_printed c.print_denial.result (RulePrints c.args.text.now) _ _ _ (rule_denied c.in-Err.ensures.1) c.print_denial.ensures
