use Rattle.std.proofs.Common.{◌≡◌, ℕ, ◌+◌, ◌*◌, ◌<◌, List, length, take}
use Rattle.sha256.specs.Standard.{schedule}
use Rattle.sha256.specs.Steps.{column}
use Rattle.sha256.proofs.Scheduled.{KeysTo, Made}
use Rattle.sha256.proofs.schedule.extend_keys.Given as goal

abbrev pub invariant-loop-i : goal.invariant-loop-i
invariant-loop-i l = Made (16 + 8 * l.from) (16 + 8 * l.i) l.initial.keys l.keys

abbrev pub invariant-loop-j : goal.invariant-loop-j
invariant-loop-j l = Made (16 + 8 * l.i) (16 + 8 * l.i + l.j) l.initial.keys l.keys

abbrev pub invariant-loop-t : goal.invariant-loop-t
invariant-loop-t l =
    (length l.keys ≡ 65)
    × ((i : ℕ) → i < 4 → (b : List ℕ) → take 64 (column i l.initial.keys) ≡ schedule 48 b → KeysTo l.t b (column i l.initial.keys) (column i l.keys))
