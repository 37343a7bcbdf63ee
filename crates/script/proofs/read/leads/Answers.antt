use Rattle.std.proofs.Common.{refl}
use Rattle.std.proofs.lemmas.List.{take_rest}
use Rattle.script.proofs.Spoken.{bad_digest, handed_on}
use Rattle.script.proofs.read.leads.Goals as goal

pub returns-in_err-path : goal.returns-in_err-path
returns-in_err-path c =
    handed_on _ _ c.from_residual-in_err-path.result c.in_err-path.field-0.0 c.from_residual-in_err-path.ensures.1
    (bad_digest _ c.args.args.now 3 _ (λ _. refl) (rw (take_rest c.args.args.now 3) at c.in_err-path.ensures))
