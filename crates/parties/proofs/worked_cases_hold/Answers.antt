-- The worked cases hold.
use Rattle.parties.proofs.Cases.{cases_hold}
use Rattle.parties.proofs.worked_cases_hold.Goals as goal

pub returns : goal.returns
returns c = cases_hold
