-- The path is there.
use Rattle.merkle_theory.proofs.There.{path-there}
use Rattle.merkle_theory.proofs.each_entry_has_a_path.Goals as goal

pub returns : goal.returns
returns g c = λ H. path-there H
