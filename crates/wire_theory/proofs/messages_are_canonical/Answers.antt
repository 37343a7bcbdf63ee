use Rattle.wire_theory.proofs.Decoded.{canonical}
use Rattle.wire_theory.proofs.messages_are_canonical.Goals as goal

pub returns : goal.returns
returns c = canonical
