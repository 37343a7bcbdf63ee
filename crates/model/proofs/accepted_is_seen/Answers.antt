-- What was accepted comes in sight.
use Rattle.model.proofs.Safe.{accepted_is_seen}
use Rattle.model.proofs.accepted_is_seen.Goals as goal

pub returns : goal.returns
returns c = accepted_is_seen
