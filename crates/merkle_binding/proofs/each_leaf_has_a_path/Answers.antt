-- The path is there.
use Rattle.merkle_binding.proofs.Rows.{path-from_leaf}
use Rattle.merkle_binding.proofs.each_leaf_has_a_path.Goals as goal

pub returns : goal.returns
returns c = path-from_leaf
