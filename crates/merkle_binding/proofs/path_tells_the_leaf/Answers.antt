-- A path tells the leaf digest.
use Rattle.merkle_binding.proofs.Rows.{path-tells_leaf}
use Rattle.merkle_binding.proofs.path_tells_the_leaf.Goals as goal

pub returns : goal.returns
returns c = path-tells_leaf
