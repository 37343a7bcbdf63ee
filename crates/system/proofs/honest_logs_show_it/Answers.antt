-- Cites the theorem.
use Rattle.system.proofs.Assuring.{honest_is_seen}
use Rattle.system.proofs.honest_logs_show_it.Goals as goal

pub returns : goal.returns
returns x = honest_is_seen
