use Rattle.positions.proofs.Loops.{followers_turn, followers_end}
use Rattle.positions.proofs.sets.Positions.followers.Goals as goal

pub loop-p-preserved : goal.loop-p-preserved
loop-p-preserved c = (tt, tt, followers_turn c.args.self.now.follow c.args.set c.loop-p.next _ c.in-Some.p _ c.in-Some.ensures.steps.1 c.loop-p.invariant.2)

pub returns : goal.returns
returns c = followers_end c.args.self.now.follow c.args.set c.loop-p.next c.loop-p.p-iterator.0 c.in-None.ensures.steps.0 c.loop-p.invariant.2
