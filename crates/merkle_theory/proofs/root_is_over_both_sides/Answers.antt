-- The equations of the root.
use Rattle.merkle_theory.proofs.Laws.{root-of_none, root-of_one, root-of_more}
use Rattle.merkle_theory.proofs.root_is_over_both_sides.Goals as goal

pub returns : goal.returns
returns g c = λ H. record { of_none = root-of_none H; of_one = root-of_one H; of_more = root-of_more H }
