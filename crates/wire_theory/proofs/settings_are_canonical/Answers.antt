use Rattle.wire_theory.proofs.Decoded.{settings_canonical}
use Rattle.wire_theory.proofs.settings_are_canonical.Goals as goal

pub returns : goal.returns
returns c = settings_canonical
