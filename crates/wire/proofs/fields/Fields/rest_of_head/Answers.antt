use Rattle.std.proofs.Common.{arith}
use Rattle.wire.proofs.Taken.{count_taken, head_taken}
use Rattle.wire.proofs.fields.Fields.rest_of_head.Goals as goal

pub returns-then-count-gt65536 : goal.returns-then-count-gt65536
returns-then-count-gt65536 c = λ begins. omega (arith, begins.2, count_taken _ _ _ _ _ _ _ c.in_ok-log.ensures.0 c.in_ok-at.ensures.0 c.in_ok-count.ensures.0 (omega arith))

pub returns : goal.returns
returns c = (
  head_taken _ _ _ _ _ _ _ c.in_ok-log.ensures.0 c.in_ok-at.ensures.0 c.in_ok-count.ensures.0 c.in_ok-digest.ensures.0 c.in_ok-signature.ensures.0,
  record { log = omega arith; at = omega arith; count = omega arith; root = c.in_ok-digest.ensures.1; seal = c.in_ok-signature.ensures.1 },
)
