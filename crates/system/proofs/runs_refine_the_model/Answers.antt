-- Cites the theorem.
use Rattle.system.proofs.Refining.{refines}
use Rattle.system.proofs.runs_refine_the_model.Goals as goal

pub returns : goal.returns
returns x = refines
