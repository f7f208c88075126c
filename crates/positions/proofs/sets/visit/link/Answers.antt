use Rattle.std.proofs.Common.{refl}
use Rattle.positions.proofs.Linking.{link_turn, link_past, link_end}
use Rattle.positions.proofs.sets.visit.link.Goals as goal

pub loop-p-preserved-then-p-follow : goal.loop-p-preserved-then-p-follow
loop-p-preserved-then-p-follow c =
    (tt, tt, link_turn c.args.follow.now c.loop-p.follow _ c.args.set c.args.more _ c.in-Some.p _ c.in-Some.ensures.steps.1 c.if-p-follow.true refl c.loop-p.invariant.2)

pub loop-p-preserved : goal.loop-p-preserved
loop-p-preserved c = (tt, tt, link_past c.args.follow.now c.loop-p.follow c.args.set c.args.more _ c.in-Some.p _ c.in-Some.ensures.steps.1 c.if-p-follow.false c.loop-p.invariant.2)

pub returns : goal.returns
returns c = link_end c.args.follow.now c.loop-p.follow c.args.set c.args.more c.loop-p.p-iterator.0 c.in-None.ensures.steps.0 c.loop-p.invariant.2
