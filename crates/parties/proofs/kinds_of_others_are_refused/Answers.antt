-- Kinds that are not for a party are refused.
use Rattle.parties.proofs.Refusals.{kinds_of_others}
use Rattle.parties.proofs.kinds_of_others_are_refused.Goals as goal

pub returns : goal.returns
returns c = kinds_of_others
