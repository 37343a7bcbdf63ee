use Rattle.wire.proofs.Taken.{inclusion_read}
use Rattle.wire.proofs.read_answers.inclusion.Goals as goal

pub returns : goal.returns
returns c = record { encodes = inclusion_read _ _ c.in_ok-path.ensures.0 c.in_ok-path.ensures.1; sound = c.in_ok-path.ensures.2 }
