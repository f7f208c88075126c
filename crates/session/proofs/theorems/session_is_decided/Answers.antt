use Rattle.session.proofs.Decided.{one_session}
use Rattle.session.proofs.theorems.session_is_decided.Goals as goal

pub returns : goal.returns
returns c = one_session
