use Rattle.matcher.proofs.Leaves.{leaf_one}
use Rattle.matcher.proofs.membership.leaf_has.Goals as goal

pub returns-in-len1 : goal.returns-in-len1
returns-in-len1 g c = leaf_one (λ s lo hi. g.A.Alphabet.held c.args.alphabet.now lo hi s) c.args.stretch.now c.symbol-item.result c.args.row.lo c.args.row.hi c.in-len1.len_at_least c.in-len1.len_below c.symbol-item.is c.holds.result c.holds.ensures
