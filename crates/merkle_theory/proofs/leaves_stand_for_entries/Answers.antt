-- The entries agree with their leaf digests.
use Rattle.merkle_theory.proofs.Digests.{entries_agree_with_leaves}
use Rattle.merkle_theory.proofs.leaves_stand_for_entries.Goals as goal

pub returns : goal.returns
returns c = entries_agree_with_leaves
