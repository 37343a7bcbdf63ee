-- Cites the theorem.
use Rattle.system.proofs.Assuring.{one_certificate_to_a_serial}
use Rattle.system.proofs.one_certificate_to_a_serial.Goals as goal

pub returns : goal.returns
returns x = one_certificate_to_a_serial
