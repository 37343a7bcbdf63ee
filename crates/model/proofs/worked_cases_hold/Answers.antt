-- The worked cases hold.
use Rattle.model.proofs.Cases.{cases_hold}
use Rattle.model.proofs.worked_cases_hold.Goals as goal

pub returns : goal.returns
returns c = cases_hold
