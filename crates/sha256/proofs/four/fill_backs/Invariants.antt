use Rattle.std.proofs.Common.{[], ◌∷◌, ◌++◌, get_or, replicate}
use Rattle.sha256.specs.Standard.{bytes64}
use Rattle.sha256.proofs.Scheduled.{Begun, Made}
use Rattle.sha256.proofs.four.fill_backs.Given as goal

abbrev pub invariant-loop-t : goal.invariant-loop-t
invariant-loop-t l = Begun l.t (λ i. get_or (get_or l.pairs i []) 63 0 ∷ 0x80 ∷ (replicate 54 0 ++ bytes64 520)) l.keys

abbrev pub invariant-loop-t-2 : goal.invariant-loop-t-2
invariant-loop-t-2 l = Made 16 l.t l.initial.keys l.keys

abbrev pub invariant-loop-t-3 : goal.invariant-loop-t-3
invariant-loop-t-3 l = Made 30 l.t l.initial.keys l.keys
