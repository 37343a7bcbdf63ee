-- What is refused changes nothing.
use Rattle.parties.proofs.Refusals.{refusals_change_nothing}
use Rattle.parties.proofs.refusals_change_nothing.Goals as goal

pub returns : goal.returns
returns c = refusals_change_nothing
