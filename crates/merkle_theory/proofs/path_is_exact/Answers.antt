-- A path is exact.
use Rattle.merkle_theory.proofs.Terms.{path_exact}
use Rattle.merkle_theory.proofs.path_is_exact.Goals as goal

pub returns : goal.returns
returns g c = path_exact _
