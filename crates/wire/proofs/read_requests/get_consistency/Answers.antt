use Rattle.std.proofs.Common.{arith}
use Rattle.wire.proofs.Taken.{get_consistency_read}
use Rattle.wire.proofs.read_requests.get_consistency.Goals as goal

pub returns : goal.returns
returns c = record { encodes = get_consistency_read _ _ _ c.in_ok-from.ensures (omega arith) (omega arith); sound = tt }
