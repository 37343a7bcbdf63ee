-- Verdicts are given exactly if what they say is so.
use Rattle.parties.proofs.Judging.{judges_right}
use Rattle.parties.proofs.judges_right.Goals as goal

pub returns : goal.returns
returns c = judges_right
