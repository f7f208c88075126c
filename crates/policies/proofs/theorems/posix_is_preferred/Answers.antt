use Rattle.policies.proofs.PosixOrder.{posix_prefers}
use Rattle.policies.proofs.theorems.posix_is_preferred.Goals as goal

pub returns : goal.returns
returns c = posix_prefers
