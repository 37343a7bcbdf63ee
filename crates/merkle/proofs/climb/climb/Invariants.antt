use Rattle.std.proofs.Common.{◌≡◌, reverse}
use Rattle.merkle.specs.Ways.{climbed}
use Rattle.merkle.proofs.climb.climb.Given as goal

abbrev pub invariant-loop-digest : goal.invariant-loop-digest
invariant-loop-digest g l =
    climbed g.T.Rise.raised l.ahead (reverse l.digest-iterator.iter.rest.now) l.risen ≡ climbed g.T.Rise.raised l.turns (reverse l.beside) l.fn.start
