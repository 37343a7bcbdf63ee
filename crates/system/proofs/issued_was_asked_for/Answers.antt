-- Cites the theorem.
use Rattle.system.proofs.Assuring.{issued_was_asked_for}
use Rattle.system.proofs.issued_was_asked_for.Goals as goal

pub returns : goal.returns
returns x = issued_was_asked_for
