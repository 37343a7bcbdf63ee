-- Split finds the power of two, and there is one only.
use Rattle.merkle_theory.proofs.Laws.{split_splits, split_unique}
use Rattle.merkle_theory.proofs.split_is_the_power_of_two.Goals as goal

pub returns : goal.returns
returns c = (split_splits, split_unique)
