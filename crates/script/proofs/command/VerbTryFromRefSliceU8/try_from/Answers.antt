use Rattle.std.proofs.Common.{refl, arith}
use Rattle.script.proofs.Spoken.{no_verb}
use Rattle.script.proofs.command.VerbTryFromRefSliceU8.try_from.Goals as goal

pub returns-in_default : goal.returns-in_default
returns-in_default c =
    (refl, no_verb c.args.word.now (λ e. grind arith) (λ e. grind arith) (λ e. grind arith) (λ e. grind arith) (λ e. grind arith) (λ e. grind arith))
