use Rattle.wire.proofs.Begun.{begins_certificate}
use Rattle.wire.proofs.parts.Certificates.split_first.Goals as goal

pub returns-in_err-first : goal.returns-in_err-first
returns-in_err-first c = rw c.from_residual.ensures (λ begins. c.in_err-first.ensures (begins_certificate _ (rw c.of-fields.ensures begins)))
