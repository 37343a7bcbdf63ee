-- Cites the theorem.
use Rattle.system.proofs.Assuring.{never_convicted}
use Rattle.system.proofs.honest_logs_are_never_convicted.Goals as goal

pub returns : goal.returns
returns x = never_convicted
