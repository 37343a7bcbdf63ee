-- Earlier ticks change nothing.
use Rattle.parties.proofs.Refusals.{earlier_ticks_change_nothing}
use Rattle.parties.proofs.earlier_ticks_change_nothing.Goals as goal

pub returns : goal.returns
returns c = earlier_ticks_change_nothing
