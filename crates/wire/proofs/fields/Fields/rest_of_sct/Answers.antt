use Rattle.std.proofs.Common.{arith}
use Rattle.wire.proofs.Taken.{sct_taken}
use Rattle.wire.proofs.fields.Fields.rest_of_sct.Goals as goal

pub returns : goal.returns
returns c = (
  sct_taken _ _ _ _ _ _ c.in_ok-byte.ensures.0 c.in_ok-digest.ensures.0 c.in_ok-number.ensures.0 c.in_ok-signature.ensures.0,
  record { log = omega arith; digest = c.in_ok-digest.ensures.1; at = omega arith; seal = c.in_ok-signature.ensures.1 },
)
