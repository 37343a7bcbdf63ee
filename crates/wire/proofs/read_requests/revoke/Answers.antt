use Rattle.std.proofs.Common.{sym, ◌∙◌, arith}
use Rattle.wire.proofs.Taken.{revoke_read}
use Rattle.wire.proofs.read_requests.revoke.Goals as goal

pub returns : goal.returns
returns c = record { encodes = revoke_read _ _ _ _ _ (sym c.of-fields.ensures ∙ c.in_ok-serial.ensures.0) (omega arith) c.in_ok-signature.ensures c.in_ok-end.ensures; sound = tt }
