use Rattle.std.proofs.Common.{arith}
use Rattle.matcher.proofs.Framed.{framed, frame_pair}
use Rattle.matcher.proofs.frame.Frame.second.Goals as goal

pub bounds-self-node : goal.bounds-self-node
bounds-self-node c = let p = frame_pair c.args.self.now c.args.node c.requires.inside c.requires.pair in omega (arith, p.within, p.first_some, (framed c.args.self.now).few)

pub returns-clause-within : goal.returns-clause-within
returns-clause-within c = frame_pair c.args.self.now c.args.node c.requires.inside c.requires.pair
