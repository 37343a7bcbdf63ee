use Rattle.std.proofs.Common.{sym, ◌∙◌, rules}
use Rattle.wire.proofs.Taken.{refused_read}
use Rattle.wire.proofs.read_answers.refused.Goals as goal

pub returns : goal.returns
returns c = record { encodes = refused_read _ _ _ (sym c.of-fields.ensures ∙ c.in_ok-number.ensures.0) c.in_ok-end.ensures (search rules) (search rules); sound = tt }
