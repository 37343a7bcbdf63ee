use Rattle.std.proofs.Common.{◌≡◌, ℕ, ◌<◌, length}
use Rattle.script.specs.Texts.{Pair}
use Rattle.script.proofs.hex.from_hex.Given as goal

abbrev pub invariant-loop-i : goal.invariant-loop-i
invariant-loop-i l = (length l.bytes ≡ 32) × ((k : ℕ) → k < l.i → Pair l.word l.bytes k)
