-- Cites the theorem.
use Rattle.real_coding.proofs.Coded.{readable_is_well_formed}
use Rattle.real_coding.proofs.readable_is_well_formed.Goals as goal

pub returns : goal.returns
returns x = readable_is_well_formed
