use Rattle.wire_theory.proofs.Decoded.{decodes_back}
use Rattle.wire_theory.proofs.decoding_gives_back.Goals as goal

pub returns : goal.returns
returns c = decodes_back
