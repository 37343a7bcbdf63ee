use Rattle.std.proofs.Common.{◌≡◌, drop}
use Rattle.sha256.specs.Standard.{hashed}
use Rattle.sha256.proofs.Whole.{singles}
use Rattle.sha256.proofs.block.compressed.Given as goal

abbrev pub invariant-loop-four : goal.invariant-loop-four
invariant-loop-four l =
    hashed l.words (singles (drop l.four-index l.fours)) ≡ hashed l.initial.words (singles l.fours)
