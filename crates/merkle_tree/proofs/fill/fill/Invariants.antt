-- All rows of smaller subtrees are filled.
use Rattle.std.proofs.Common.{◌-◌, ◌≤◌}
use Rattle.merkle_tree.specs.Fill.{Levels}
use Rattle.merkle_tree.proofs.fill.fill.Given as goal

abbrev pub invariant-loop-size : goal.invariant-loop-size
invariant-loop-size l = (1 ≤ l.size) × Levels l.leaves l.mids l.from l.size

abbrev pub decreases-loop-size : goal.decreases-loop-size
decreases-loop-size l = l.count - l.size
