-- Cites the theorem.
use Rattle.system.proofs.Assuring.{accepted_is_seen}
use Rattle.system.proofs.accepted_is_seen.Goals as goal

pub returns : goal.returns
returns x = accepted_is_seen
