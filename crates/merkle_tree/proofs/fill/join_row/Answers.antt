-- Where the loop ends, no further subtree of the row fits.
use Rattle.std.proofs.Common.{◌*◌, arith}
use Rattle.merkle_tree.proofs.Fills.{row_ends}
use Rattle.merkle_tree.proofs.fill.join_row.Goals as goal

pub returns : goal.returns
returns c count r = row_ends (c.args.size * 2) (omega arith) (omega arith) (c.loop-at.invariant.1 count (c.join_fours-at.ensures.row count r))
