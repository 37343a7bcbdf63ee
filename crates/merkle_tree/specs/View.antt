-- What a tree is to its users: the leaf digests added so far. Assumes nothing.
use Rattle.std.specs.Prelude.{List, vec_items}
use Rattle.merkle.specs.declared.digest.Digest.{Digest}
use Rattle.merkle_tree.specs.declared.tree.Tree.{Tree}

abbrev pub leaves_of : Tree → List Digest
leaves_of tree = vec_items tree.leaves
