use Rattle.std.proofs.Common.{◌∙◌}
use Rattle.cases.proofs.Rows.{first_taken, second_taken}
use Rattle.cases.proofs.membership.two_parts.Goals as goal
use Rattle.rules.specs.Trees.{rows}

pub returns-clause-trees : goal.returns-clause-trees
returns-clause-trees c p q e =
    let n = c.tree_len.ensures.tree p (rows q) e in
    (c.split_at.ensures.front ∙ first_taken p q c.args.rows.now c.tree_len.result e n, c.split_at.ensures.back ∙ second_taken p q c.args.rows.now c.tree_len.result e n)
