-- The consistency proof is there.
use Rattle.merkle_theory.proofs.There.{consistency-there}
use Rattle.merkle_theory.proofs.each_earlier_list_has_a_proof.Goals as goal

pub returns : goal.returns
returns g c = λ H. consistency-there H
