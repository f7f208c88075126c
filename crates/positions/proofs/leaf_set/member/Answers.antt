use Rattle.std.proofs.Common.{sym, ◌∙◌, arith}
use Rattle.std.proofs.lemmas.Bool.{le-ltb}
use Rattle.positions.proofs.Masks.{member_above}
use Rattle.positions.proofs.leaf_set.member.Goals as goal

pub returns-else-p-lt32 : goal.returns-else-p-lt32
returns-else-p-lt32 c = le-ltb c.args.p 32 c.if-p-lt32.false ∙ sym (member_above c.args.set 32 c.args.p (omega arith) c.if-p-lt32.false)
