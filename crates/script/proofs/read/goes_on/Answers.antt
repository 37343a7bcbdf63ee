use Rattle.std.proofs.Common.{refl}
use Rattle.std.proofs.lemmas.List.{take_rest}
use Rattle.script.proofs.Spoken.{bad_digest, handed_on}
use Rattle.script.proofs.read.goes_on.Goals as goal

pub returns-in_err-proof : goal.returns-in_err-proof
returns-in_err-proof c =
    handed_on _ _ c.from_residual-in_err-proof.result c.in_err-proof.field-0.0 c.from_residual-in_err-proof.ensures.1
    (bad_digest _ c.args.args.now 2 _ (λ _. refl) (rw (take_rest c.args.args.now 2) at c.in_err-proof.ensures))
