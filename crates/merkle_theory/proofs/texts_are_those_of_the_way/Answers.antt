-- The equations of the texts of a path.
use Rattle.merkle_theory.proofs.Traced.{follow_text_laws}
use Rattle.merkle_theory.proofs.texts_are_those_of_the_way.Goals as goal

pub returns : goal.returns
returns g c = λ t. follow_text_laws t
