-- A monitor's answers are so.
use Rattle.parties.proofs.MonitorAnswers.{answers_are_true}
use Rattle.parties.proofs.answers_are_true.Goals as goal

pub returns : goal.returns
returns c = answers_are_true
