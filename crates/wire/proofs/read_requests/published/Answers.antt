use Rattle.std.proofs.Common.{sym, ◌∙◌, arith}
use Rattle.wire.proofs.Taken.{published_read}
use Rattle.wire.proofs.read_requests.published.Goals as goal

pub returns : goal.returns
returns c = record { encodes = published_read _ _ _ (sym c.of-fields.ensures ∙ c.in_ok-serial.ensures.0) (omega arith) c.in_ok-end.ensures; sound = tt }
