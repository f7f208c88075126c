use Rattle.session.proofs.Turns.{cut}
use Rattle.session.proofs.lines.served_lines.Goals as goal

pub returns : goal.returns
returns c = cut _ _ 65536 c.min.ensures
