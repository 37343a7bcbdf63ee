use Rattle.std.proofs.Common.{arith}
use Rattle.wire.proofs.Taken.{get_entries_read}
use Rattle.wire.proofs.Begun.{entries_told}
use Rattle.wire.proofs.read_requests.get_entries.Goals as goal

pub returns-then-saturating_sub-gt64 : goal.returns-then-saturating_sub-gt64
returns-then-saturating_sub-gt64 c = λ shape. omega (arith, shape.1, entries_told _ _ _ c.in_ok-from.ensures (omega arith) (omega arith))

pub returns : goal.returns
returns c = record { encodes = get_entries_read _ _ _ c.in_ok-from.ensures (omega arith) (omega arith) (omega arith); sound = tt }
