use Rattle.wire_theory.proofs.Shaped.{shaped}
use Rattle.wire_theory.proofs.messages_are_shaped.Goals as goal

pub returns : goal.returns
returns c = shaped
