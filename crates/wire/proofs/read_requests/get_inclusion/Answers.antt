use Rattle.std.proofs.Common.{arith}
use Rattle.wire.proofs.Taken.{get_inclusion_read}
use Rattle.wire.proofs.read_requests.get_inclusion.Goals as goal

pub returns : goal.returns
returns c = record { encodes = get_inclusion_read _ _ _ c.in_ok-place.ensures (omega arith) (omega arith); sound = tt }
