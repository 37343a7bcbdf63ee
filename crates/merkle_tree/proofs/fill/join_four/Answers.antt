-- The roots of four subtrees more are kept.
use Rattle.std.proofs.Common.{ap, ◌∙◌}
use Rattle.merkle.specs.Rows.{nodes_over}
use Rattle.merkle_tree.proofs.Fills.{row_four}
use Rattle.merkle_tree.proofs.fill.join_four.Goals as goal

pub returns : goal.returns
returns c = row_four c.requires.paired c.requires.within (c.node_digests-roots.ensures ∙ ap nodes_over c.eight.ensures)
