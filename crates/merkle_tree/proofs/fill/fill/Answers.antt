-- A row more is filled; where a row has no subtree left to do, or the leaves are too few for it, all are kept.
use Rattle.std.proofs.Common.{◌*◌, arith}
use Rattle.merkle_tree.proofs.Fills.{row_begins, row_has_none, too_few}
use Rattle.merkle_tree.proofs.fill.fill.Goals as goal

pub loop-size-preserved : goal.loop-size-preserved
loop-size-preserved c = (omega arith, c.join_row.ensures c.args.from (row_begins (2 * c.loop-size.size) (omega arith) c.loop-size.invariant.1))

pub returns : goal.returns
returns c = record { paired = omega arith; kept = too_few (omega arith) c.loop-size.invariant.1 }

pub returns-then-count-at : goal.returns-then-count-at
returns-then-count-at c =
    record { paired = omega arith; kept = row_has_none (omega arith) (omega arith) (row_begins (2 * c.loop-size.size) (omega arith) c.loop-size.invariant.1) }
