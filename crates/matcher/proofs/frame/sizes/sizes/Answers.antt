use Rattle.std.proofs.Common.{ℕ, length, replicate, sym, ap, subst, arith}
use Rattle.rules.specs.RuleRows.{rule_rows}
use Rattle.matcher.specs.Sizes.{SizedFrom}
use Rattle.matcher.proofs.Framed.{rule_few}
use Rattle.matcher.proofs.Nodes.{sized_none, sized_more}
use Rattle.matcher.proofs.frame.sizes.sizes.Goals as goal

pub loop-node-init : goal.loop-node-init
loop-node-init c =
    let P : ℕ → Type 0 = λ k. SizedFrom (rule_rows c.args.rule.now) k (replicate 64 0) in
    subst P (ap length (sym c.rows-node.ensures.value)) (sized_none (rule_rows c.args.rule.now))

pub loop-node-preserved : goal.loop-node-preserved
loop-node-preserved c = sized_more (rule_rows c.args.rule.now) c.loop-node.sizes c.loop-node.node c.size_at.result c.loop-node.invariant (omega (arith, rule_few c.args.rule.now, ap length c.rows-node.ensures.value)) c.size_at.ensures
