-- Both sides have leaves.
use Rattle.std.proofs.Common.{arith}
use Rattle.merkle_theory.proofs.Laws.{split_pos, split_below}
use Rattle.merkle_tree.proofs.subtree.left_side.Goals as goal

pub returns-clause-bounds : goal.returns-clause-bounds
returns-clause-bounds c = (omega (arith, c.left_size.ensures, split_pos c.args.size c.requires), omega (arith, c.left_size.ensures, split_below c.args.size c.requires))
