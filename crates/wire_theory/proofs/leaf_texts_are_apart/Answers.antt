use Rattle.wire_theory.proofs.Decoded.{leaf_texts_apart}
use Rattle.wire_theory.proofs.leaf_texts_are_apart.Goals as goal

pub returns : goal.returns
returns c = leaf_texts_apart
