-- The row is filled up to a place that stays within the leaves.
use Rattle.std.proofs.Common.{ℕ, ◌-◌, ◌≤◌, length}
use Rattle.merkle_tree.specs.Fill.{Row}
use Rattle.merkle_tree.proofs.fill.join_fours.Given as goal

abbrev pub invariant-loop-at : goal.invariant-loop-at
invariant-loop-at l = (l.at ≤ length l.leaves) × ((count : ℕ) → Row l.leaves l.initial.mids count l.size l.from → Row l.leaves l.mids count l.size l.at)

abbrev pub decreases-loop-at : goal.decreases-loop-at
decreases-loop-at l = length l.leaves - l.at
