-- The way has come to a subtree that has the place.
use Rattle.std.proofs.Common.{◌+◌, false, vec_items}
use Rattle.merkle_tree.specs.Walk.{Walks}
use Rattle.merkle_tree.proofs.Walks.{OnWay}
use Rattle.merkle_tree.proofs.rows.Rows.walk.Given as goal

abbrev pub invariant-down : goal.invariant-down
invariant-down g l =
    OnWay l.self.leaves.now l.span.from l.span.size l.place × Walks (λ f s. goal.F-post g l.ends s (f + s) false) l.self.leaves.now l.place (vec_items l.beside) 0 l.count l.span.from l.span.size

abbrev pub decreases-down : goal.decreases-down
decreases-down g l = l.span.size
