use Rattle.std.proofs.Common.{arith}
use Rattle.wire.proofs.Taken.{certificate_within}
use Rattle.wire.proofs.fields.Fields.rest_of_certificate.Goals as goal

pub returns : goal.returns
returns c = (
  certificate_within _ _ _ _ _ _ _ _ _ _ _ c.in_ok-issuer.ensures.0 c.in_ok-name.ensures.0 c.in_ok-bytes.ensures c.of-rest.ensures c.in_ok-key.ensures c.in_ok-number.ensures.0 c.in_ok-number-2.ensures.0 c.in_ok-signature.ensures,
  record { issuer = omega arith; name = c.in_ok-name.ensures.1; key = c.in_ok-key.ensures.1; serial = omega arith; expiry = omega arith; seal = c.in_ok-signature.ensures.1 },
)
