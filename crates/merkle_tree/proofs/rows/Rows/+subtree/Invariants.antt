-- What is left of a subtree after its first whole one is smaller.
use Rattle.merkle_tree.proofs.rows.Rows.+subtree.Given as goal

abbrev pub decreases-subtree : goal.decreases-subtree
decreases-subtree l = l.span.size
