use Rattle.wire_theory.proofs.Decoded.{evidence_canonical}
use Rattle.wire_theory.proofs.evidence_is_canonical.Goals as goal

pub returns : goal.returns
returns c = evidence_canonical
