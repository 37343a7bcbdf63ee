use Rattle.std.proofs.Common.{◌≡◌, ℕ, ◌<◌, length, vec_items}
use Rattle.script.specs.Texts.{Pair}
use Rattle.show.proofs.digits.bytes_from_hex.Given as goal

abbrev pub invariant-loop-pair : goal.invariant-loop-pair
invariant-loop-pair l = (length (vec_items l.bytes) ≡ l.pair-index) × ((k : ℕ) → k < l.pair-index → Pair l.digits (vec_items l.bytes) k)
