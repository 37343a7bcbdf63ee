-- Cites the theorem.
use Rattle.system.proofs.Assuring.{accepted_was_issued}
use Rattle.system.proofs.accepted_was_issued.Goals as goal

pub returns : goal.returns
returns x = accepted_was_issued
