use Rattle.std.proofs.Common.{◌≡◌, ℕ, ◌<◌, ◌+◌, ◌*◌}
use Rattle.std.specs.Fn.{FnReturnsAt}
use Rattle.sha256.specs.Steps.{ahead, column}
use Rattle.sha256.specs.Lanes.{lane_of, TakesLane}
use Rattle.sha256.proofs.words.Words.hashed_under.Given as goal

abbrev pub invariant-loop-eight : goal.invariant-loop-eight
invariant-loop-eight g l =
    (i m : ℕ) → i < g.W.Word.lanes → TakesLane (g.W.Word.lane i) m (FnReturnsAt g.F.Fn l.own)
    → lane_of (g.W.Word.lane i) l.s ≡ ahead (8 * l.eight-index) (column m l.keys) (lane_of (g.W.Word.lane i) l.self)

abbrev pub invariant-loop-key : goal.invariant-loop-key
invariant-loop-key g l =
    (i m : ℕ) → i < g.W.Word.lanes → TakesLane (g.W.Word.lane i) m (FnReturnsAt g.F.Fn l.own)
    → lane_of (g.W.Word.lane i) l.s ≡ ahead (8 * l.eight-index + l.key-index) (column m l.keys) (lane_of (g.W.Word.lane i) l.self)
