-- Cites the theorem.
use Rattle.system.proofs.Assuring.{revoked_is_not_accepted}
use Rattle.system.proofs.revoked_is_not_accepted.Goals as goal

pub returns : goal.returns
returns x = revoked_is_not_accepted
