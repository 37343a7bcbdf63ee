use Rattle.wire.proofs.Taken.{consistency_read}
use Rattle.wire.proofs.read_answers.consistency.Goals as goal

pub returns : goal.returns
returns c = record { encodes = consistency_read _ _ c.in_ok-path.ensures.0 c.in_ok-path.ensures.1; sound = c.in_ok-path.ensures.2 }
