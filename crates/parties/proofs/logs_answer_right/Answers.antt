-- A log's answers are right.
use Rattle.parties.proofs.LogAnswers.{logs_answer_right}
use Rattle.parties.proofs.logs_answer_right.Goals as goal

pub returns : goal.returns
returns c = logs_answer_right
