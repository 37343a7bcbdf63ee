-- The equations of the texts of a root.
use Rattle.merkle_theory.proofs.Traced.{text_laws}
use Rattle.merkle_theory.proofs.texts_are_those_of_the_roots.Goals as goal

pub returns : goal.returns
returns g c = λ t. text_laws t
