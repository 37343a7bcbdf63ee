use Rattle.std.proofs.Common.{sym, ◌∙◌, arith}
use Rattle.wire.proofs.Taken.{challenge_read}
use Rattle.wire.proofs.read_requests.challenge.Goals as goal

pub returns : goal.returns
returns c = record { encodes = challenge_read _ _ _ _ _ (sym c.of-fields.ensures ∙ c.in_ok-number.ensures.0) (omega arith) c.in_ok-nonce.ensures c.in_ok-end.ensures; sound = tt }
