-- Cites the theorem.
use Rattle.real_coding.proofs.Coded.{seals_ignore_seals}
use Rattle.real_coding.proofs.seals_ignore_seals.Goals as goal

pub returns : goal.returns
returns x = seals_ignore_seals
