-- A consistency proof is exact.
use Rattle.merkle_theory.proofs.Terms.{consistency_exact}
use Rattle.merkle_theory.proofs.consistency_is_exact.Goals as goal

pub returns : goal.returns
returns g c = consistency_exact _
