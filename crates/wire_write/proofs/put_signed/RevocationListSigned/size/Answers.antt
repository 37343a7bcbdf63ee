use Rattle.std.proofs.Common.{refl, arith, rules}
use Rattle.wire_write.proofs.Short.{list_fits, too_many_serials}
use Rattle.wire_write.proofs.put_signed.RevocationListSigned.size.Goals as goal
use Rattle.wire_write.proofs.put_signed.RevocationListSigned.size.Goals.{then-length-gt8192-via-then-length-gt8192, then-length-gt8192-via-else-length-gt8192+then-not-are_rising}

pub returns-then-length-gt8192 : goal.returns-then-length-gt8192
returns-then-length-gt8192 c = elim c.then-length-gt8192.branch [
  | then-length-gt8192-via-then-length-gt8192 w ↦ too_many_serials _ _ refl w.if-length-gt8192.true
  | then-length-gt8192-via-else-length-gt8192+then-not-are_rising w ↦ λ whole fits. w.if-not-are_rising.ensures whole fits.rising
]

pub returns : goal.returns
returns c = let row = c.if-not-are_rising.ensures in (omega arith, list_fits _ _ (search rules) (search rules) refl (omega arith) row (search rules), (row, omega arith))
