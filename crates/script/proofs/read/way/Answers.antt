use Rattle.std.proofs.Common.{refl, arith}
use Rattle.script.proofs.Spoken.{bad_number, handed_on}
use Rattle.script.proofs.read.way.Goals as goal

pub returns-in_err-place : goal.returns-in_err-place
returns-in_err-place c =
    handed_on _ _ c.from_residual.result c.in_err-place.field-0.0 c.from_residual.ensures.1
    (bad_number _ c.args.args.now _ _ (λ _. refl) (omega arith) c.in_err-place.ensures)
