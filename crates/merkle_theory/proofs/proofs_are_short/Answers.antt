-- Proofs are short.
use Rattle.merkle_theory.proofs.Short.{proofs_short}
use Rattle.merkle_theory.proofs.proofs_are_short.Goals as goal

pub returns : goal.returns
returns g c = λ H. proofs_short H
