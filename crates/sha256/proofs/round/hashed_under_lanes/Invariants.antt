use Rattle.std.proofs.Common.{◌≡◌}
use Rattle.sha256.specs.Steps.{under_lanes}
use Rattle.sha256.proofs.round.hashed_under_lanes.Given as goal

abbrev pub invariant-loop-lane : goal.invariant-loop-lane
invariant-loop-lane l = l.words ≡ under_lanes l.lane-counter l.keys l.initial.words
