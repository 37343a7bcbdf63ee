-- Evaluation is a homomorphism.
use Rattle.merkle_theory.proofs.Carried.{carries}
use Rattle.merkle_theory.proofs.Terms.{eval_is_homomorphism}
use Rattle.merkle_theory.proofs.terms_stand_for_digests.Goals as goal

pub returns : goal.returns
returns g c = λ H. carries _ H _ _ (eval_is_homomorphism _ H)
