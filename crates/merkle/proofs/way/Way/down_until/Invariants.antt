use Rattle.std.proofs.Common.{◌≤◌, false}
use Rattle.merkle.specs.Ways.{Down}
use Rattle.merkle.proofs.way.Way.down_until.Given as goal

abbrev pub invariant-down : goal.invariant-down
invariant-down g l = (l.way.levels ≤ l.levels) × Down (λ u. goal.F-post g l.ends u false) l.fn.self l.way

abbrev pub decreases-down : goal.decreases-down
decreases-down g l = l.way.count
