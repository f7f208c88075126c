use Rattle.constraints.proofs.Decided.{one_session}
use Rattle.constraints.proofs.theorems.session_is_decided.Goals as goal

pub returns : goal.returns
returns c = one_session
