-- The equations of the path.
use Rattle.merkle_theory.proofs.Laws.{path-of_one, path_in_left, path_in_right}
use Rattle.merkle_theory.proofs.path_has_the_sides_beside.Goals as goal

pub returns : goal.returns
returns g c = λ H. record { of_one = path-of_one H; in_left = path_in_left H; in_right = path_in_right H }
