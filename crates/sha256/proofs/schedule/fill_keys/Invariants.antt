use Rattle.std.proofs.Common.{[], get_or}
use Rattle.sha256.proofs.Scheduled.{Begun}
use Rattle.sha256.proofs.schedule.fill_keys.Given as goal

abbrev pub invariant-loop-t : goal.invariant-loop-t
invariant-loop-t l = Begun l.t-counter (λ i. get_or l.blocks i []) l.keys
