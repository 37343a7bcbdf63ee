-- The invariants of monitors hold.
use Rattle.parties.proofs.MonitorInvariants.{monitor_invariants_hold}
use Rattle.parties.proofs.monitor_invariants_hold.Goals as goal

pub returns : goal.returns
returns c = monitor_invariants_hold
