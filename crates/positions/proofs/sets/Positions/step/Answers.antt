use Rattle.positions.proofs.Running.{run_step}
use Rattle.positions.proofs.sets.Positions.step.Goals as goal

pub returns : goal.returns
returns g c t h =
    run_step (g.A.Alphabet.held c.args.alphabet.now) t c.args.self.now h c.args.set c.followers.result c.holders.result c.args.symbol.now
    c.followers.ensures c.holders.ensures
