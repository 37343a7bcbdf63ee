-- The right side is a subtree too.
use Rattle.merkle_tree.proofs.Subtrees.{right_side}
use Rattle.merkle_tree.proofs.rows.Rows.down.Goals as goal

pub subtree-requires : goal.subtree-requires
subtree-requires c = right_side c.requires.subtree c.requires.two c.left_side-size.result c.left_side-size.ensures.value
