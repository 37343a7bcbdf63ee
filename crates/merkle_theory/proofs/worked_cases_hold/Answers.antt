-- The worked cases hold by computation.
use Rattle.std.proofs.Common.{refl}
use Rattle.merkle_theory.specs.Tree.{doubled, split, root_f, root, path_f, path, consistency_f, consistency}
use Rattle.merkle_theory.proofs.worked_cases_hold.Goals as goal

pub returns : goal.returns
unfolding doubled split root_f root path_f path consistency_f consistency
returns c = (refl, (refl, (refl, tt)))
