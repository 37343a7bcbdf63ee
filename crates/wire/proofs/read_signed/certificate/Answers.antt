use Rattle.std.proofs.Common.{◌∷◌, sym, ap, ◌∙◌}
use Rattle.wire.proofs.Taken.{certificate_read}
use Rattle.wire.proofs.Begun.{certificate_ends}
use Rattle.wire.proofs.read_signed.certificate.Goals as goal

pub returns-in_err-end : goal.returns-in_err-end
returns-in_err-end c = rw c.from_residual-in_err-end.ensures (λ shape. c.in_err-end.ensures (certificate_ends _ _ _ (ap (λ s. 1 ∷ s) (sym c.of-fields.ensures) ∙ c.in_ok-certificate.ensures.0, c.in_ok-certificate.ensures.1) shape))

pub returns : goal.returns
returns c = record { encodes = certificate_read _ _ _ (ap (λ s. 1 ∷ s) (sym c.of-fields.ensures) ∙ c.in_ok-certificate.ensures.0, c.in_ok-certificate.ensures.1) c.in_ok-end.ensures; sound = tt }
