use Rattle.std.proofs.Common.{refl}
use Rattle.wire_theory.specs.Messages.{Fits, encode}
use Rattle.wire_theory.specs.Shapes.{Shaped}
use Rattle.wire_theory.proofs.Shaped.{not_shaped, shaped}
use Rattle.wire.proofs.reader.read.Goals as goal

pub returns-in_default : goal.returns-in_default
returns-in_default c = (refl, not_shaped encode Fits Shaped shaped _ c.in_default.ensures)
