use Rattle.std.proofs.Common.{◌≡◌, ℕ, ◌-◌, ◌<◌, ◌≤◌, length, get_or}
use Rattle.wire_theory.specs.Messages.{Rising}
use Rattle.wire.specs.Views.{serials_of}
use Rattle.wire.proofs.parts.Serials.contains.Given as goal

-- where the serial can stand
abbrev pub invariant-loop-low : goal.invariant-loop-low
invariant-loop-low l =
    (l.high ≤ length l.serials)
    × (Rising (serials_of l.self) → (k : ℕ) → k < length (serials_of l.self) → get_or (serials_of l.self) k 0 ≡ l.serial → (l.low ≤ k) × (k < l.high))

abbrev pub decreases-loop-low : goal.decreases-loop-low
decreases-loop-low l = l.high - l.low
