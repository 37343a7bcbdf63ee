use Rattle.std.proofs.Common.{[], ◌∷◌, get_or, take}
use Rattle.sha256.proofs.Scheduled.{Begun}
use Rattle.sha256.proofs.four.fill_fronts.Given as goal

abbrev pub invariant-loop-t : goal.invariant-loop-t
invariant-loop-t l = Begun l.t-counter (λ i. l.fn.tag ∷ take 63 (get_or l.pairs i [])) l.keys
