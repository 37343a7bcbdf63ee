-- The invariants of logs hold.
use Rattle.parties.proofs.LogInvariants.{log_invariants_hold}
use Rattle.parties.proofs.log_invariants_hold.Goals as goal

pub returns : goal.returns
returns c = log_invariants_hold
