use Rattle.std.proofs.Common.{refl}
use Rattle.rules.proofs.OneTree.{ruled}
use Rattle.rules.proofs.rule.Rule.rows.Goals as goal

pub returns : goal.returns
returns c = record {
  value = refl;
  ruled = ruled c.args.self.now.rows c.args.self.now.len c.args.self.now.few c.args.self.now.tree;
}
