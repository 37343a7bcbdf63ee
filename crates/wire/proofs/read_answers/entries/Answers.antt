use Rattle.wire_theory.proofs.Follows.{entries_read}
use Rattle.wire.proofs.Taken.{entries_message}
use Rattle.wire.proofs.read_answers.entries.Goals as goal

pub returns : goal.returns
returns c = record { encodes = entries_message _ _ (entries_read _ c.if-not-are_whole.ensures); sound = c.if-not-are_whole.ensures }
