use Rattle.std.proofs.Common.{refl, arith}
use Rattle.script.proofs.Spoken.{bad_number, handed_on}
use Rattle.script.proofs.read.proof.Goals as goal

pub returns-in_err-from : goal.returns-in_err-from
returns-in_err-from c =
    handed_on _ _ c.from_residual.result c.in_err-from.field-0.0 c.from_residual.ensures.1
    (bad_number _ c.args.args.now _ _ (λ _. refl) (omega arith) c.in_err-from.ensures)
