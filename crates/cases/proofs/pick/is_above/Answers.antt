use Rattle.std.proofs.Common.{Some, ap, ◌∙◌, rules}
use Rattle.std.specs.Ordering.{is_gt}
use Rattle.cases.specs.Keys.{key_of}
use Rattle.cases.proofs.Picks.{above_compared}
use Rattle.cases.proofs.pick.is_above.Goals as goal

pub returns : goal.returns
returns c =
    let f = c.compare_by.ensures (λ r e. Some (key_of c.args.keys r e)) (λ x y k h. search rules) in
    c.is_gt.ensures ∙ ap is_gt f ∙ above_compared c.args.keys c.args.rows.now c.args.first.now c.args.second.now c.min-nodes.result c.min-nodes.ensures
