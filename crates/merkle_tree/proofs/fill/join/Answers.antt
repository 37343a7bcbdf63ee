-- The root of one subtree more is kept.
use Rattle.merkle_tree.proofs.Fills.{row_joined}
use Rattle.merkle_tree.proofs.fill.join.Goals as goal

pub returns : goal.returns
returns c = row_joined c.requires.paired c.requires.within c.whole-left.ensures c.whole-right.ensures c.node_digest.ensures
