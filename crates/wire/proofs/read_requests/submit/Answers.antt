use Rattle.std.proofs.Common.{sym, ◌∙◌}
use Rattle.wire.proofs.Taken.{submit_read}
use Rattle.wire.proofs.Begun.{submit_ends}
use Rattle.wire.proofs.read_requests.submit.Goals as goal

pub returns-in_err-end : goal.returns-in_err-end
returns-in_err-end c = rw c.from_residual-in_err-end.ensures (λ shape. c.in_err-end.ensures (submit_ends _ _ _ (sym c.of-fields.ensures ∙ c.in_ok-certificate.ensures.0, c.in_ok-certificate.ensures.1) shape))

pub returns : goal.returns
returns c = record { encodes = submit_read _ _ _ (sym c.of-fields.ensures ∙ c.in_ok-certificate.ensures.0, c.in_ok-certificate.ensures.1) c.in_ok-end.ensures; sound = tt }
