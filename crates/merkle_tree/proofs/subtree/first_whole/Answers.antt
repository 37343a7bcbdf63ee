-- The greatest power of two up to a number is the split of the next.
use Rattle.std.proofs.Common.{◌+◌, arith}
use Rattle.merkle.proofs.Sizes.{left_by_log}
use Rattle.merkle_tree.proofs.subtree.first_whole.Goals as goal

pub returns-clause-value : goal.returns-clause-value
returns-clause-value c =
    left_by_log (c.args.size + 1) c.ilog2.result (omega arith)
    (omega (arith, c.ilog2.ensures.power_le)) (omega (arith, c.ilog2.ensures.next_power_gt)) c.ilog2.ensures.bound
