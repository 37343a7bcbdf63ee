-- The invariants of relying parties hold.
use Rattle.parties.proofs.RelyingInvariants.{relying_invariants_hold}
use Rattle.parties.proofs.relying_invariants_hold.Goals as goal

pub returns : goal.returns
returns c = relying_invariants_hold
