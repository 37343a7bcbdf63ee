-- What is due is not refused.
use Rattle.parties.proofs.Granting.{grants_what_is_due}
use Rattle.parties.proofs.grants_what_is_due.Goals as goal

pub returns : goal.returns
returns c = grants_what_is_due
