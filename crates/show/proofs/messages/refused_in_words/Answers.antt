use Rattle.std.proofs.Common.{rules}
use Rattle.show.proofs.Texts.{no_cause}
use Rattle.show.proofs.messages.refused_in_words.Goals as goal

pub returns-in-None : goal.returns-in-None
returns-in-None c = rw (no_cause _ c.in-None.ensures) (search rules)
