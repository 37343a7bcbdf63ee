-- Cites the theorem.
use Rattle.system.proofs.Taking.{head_is_taken}
use Rattle.system.proofs.honest_heads_are_taken.Goals as goal

pub returns : goal.returns
returns x = head_is_taken
