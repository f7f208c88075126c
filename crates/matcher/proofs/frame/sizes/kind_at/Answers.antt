use Rattle.std.proofs.Common.{List, get_or, ap, arith}
use Rattle.rules.specs.declared.row.Row.{Row}
use Rattle.rules.specs.RuleRows.{rule_rows}
use Rattle.rules.specs.Trees.{row}
use Rattle.matcher.proofs.Framed.{rule_ruled}
use Rattle.matcher.proofs.Nodes.{kind_small}
use Rattle.matcher.proofs.frame.sizes.kind_at.Goals as goal

pub unreachable-requires : goal.unreachable-requires
unreachable-requires c =
    let e = ap (λ (rs : List Row). (get_or rs c.args.node (row 0 0 0)).kind) c.rows.ensures.value in
    omega (arith, e, kind_small (rule_rows c.args.rule.now) (rule_ruled c.args.rule.now) c.args.node c.requires, c.in-Err.ensures.1)
