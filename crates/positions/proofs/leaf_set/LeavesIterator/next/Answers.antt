use Rattle.std.proofs.Common.{arith}
use Rattle.positions.proofs.Masks.{lowest_bit, lowest_less}
use Rattle.positions.proofs.leaf_set.LeavesIterator.next.Goals as goal

pub returns-clause-steps : goal.returns-clause-steps
returns-clause-steps c = lowest_bit c.args.self.now.0 (omega arith) c.if-self-eq0.false

pub returns-clause-goes : goal.returns-clause-goes
returns-clause-goes c = record { on = λ _. (tt, tt, lowest_less c.args.self.now.0 _ _ (lowest_bit c.args.self.now.0 (omega arith) c.if-self-eq0.false).1); keeps = tt; rests = λ _. tt }
