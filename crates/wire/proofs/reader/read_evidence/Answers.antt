use Rattle.std.proofs.Common.{refl}
use Rattle.wire_theory.specs.Messages.{FitsEvidence, evidence_bytes}
use Rattle.wire_theory.specs.Shapes.{EvidenceShape}
use Rattle.wire_theory.proofs.Shaped.{not_shaped, evidence_shaped}
use Rattle.wire.proofs.reader.read_evidence.Goals as goal

pub returns-in_default : goal.returns-in_default
returns-in_default c = (refl, not_shaped evidence_bytes FitsEvidence EvidenceShape evidence_shaped _ c.in_default.ensures)
