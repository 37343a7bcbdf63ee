use Rattle.std.proofs.Common.{refl}
use Rattle.wire_theory.proofs.Follows.{entries_read}
use Rattle.wire_write.proofs.Short.{given_where}
use Rattle.wire_write.proofs.sizes.entries_size.Goals as goal

pub returns : goal.returns
returns c =
    given_where _ _ c.are_whole.ensures c.then_some.ensures (λ all. (refl, record { fits = (entries_read _ all).fits; sound = all; copied = tt })) (λ none sound fits. none sound)
