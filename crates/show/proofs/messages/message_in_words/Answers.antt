use Rattle.std.proofs.Common.{sym, ap, ◌∙◌}
use Rattle.std.proofs.lemmas.Result.{IfOk-weaker}
use Rattle.wire.specs.Views.{message_of}
use Rattle.show.specs.Words.{message_text}
use Rattle.show.proofs.messages.message_in_words.Goals as goal

pub returns-in-Bring : goal.returns-in-Bring
returns-in-Bring c = IfOk-weaker c.format-in-Bring.result _ _ (λ t e _. e ∙ ap (λ x. message_text (message_of x)) (sym c.in-Bring.is)) c.format-in-Bring.ensures.ok

pub returns-in-Present : goal.returns-in-Present
returns-in-Present c = IfOk-weaker c.format-in-Present.result _ _ (λ t e _. e ∙ ap (λ x. message_text (message_of x)) (sym c.in-Present.is)) c.format-in-Present.ensures.ok
