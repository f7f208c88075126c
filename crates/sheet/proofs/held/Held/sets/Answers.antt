use Rattle.sheet.proofs.HeldFacts.{sets_held}
use Rattle.sheet.proofs.held.Held.sets.Goals as goal

pub returns : goal.returns
returns c = sets_held c.args.self.now
