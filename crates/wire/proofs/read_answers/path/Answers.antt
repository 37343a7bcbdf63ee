use Rattle.wire.proofs.Begun.{path_ends}
use Rattle.wire.proofs.read_answers.path.Goals as goal

pub returns-in_err-end : goal.returns-in_err-end
returns-in_err-end c = rw c.from_residual-in_err-end.ensures (λ long. c.in_err-end.ensures (path_ends _ _ c.in_ok-path.path c.in_ok-path.ensures (rw c.of-fields.ensures long)))
