-- A homomorphism carries the tree.
use Rattle.merkle_theory.proofs.Carried.{carries}
use Rattle.merkle_theory.proofs.homomorphism_carries_the_tree.Goals as goal

pub returns : goal.returns
returns g c = λ H K f g hom. carries H K f g hom
