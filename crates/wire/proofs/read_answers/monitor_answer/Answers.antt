use Rattle.std.proofs.Common.{rules, ◌∷◌, sym, ap, ◌∙◌}
use Rattle.wire.proofs.Unknown.{answer_found, made, no_answer_found, no_head_read, not_due_read}
use Rattle.wire.specs.declared.message.Message.TheVariants as message
use Rattle.wire.specs.declared.message.MonitorAnswer.TheVariants as given
use Rattle.wire.specs.Kinds.{answer_number}
use Rattle.wire.proofs.read_answers.monitor_answer.Goals as goal

pub returns-in_err-ok : goal.returns-in_err-ok
returns-in_err-ok c = rw c.from_residual-in_err-ok.ensures (λ shape. no_answer_found _ (29 ∷ (c.in_ok-what.what.now ∷ c.in_ok-what.rest.now)) _ _ c.try_from.ensures c.ok.ensures.value c.in_err-ok.was (rw c.in_ok-what.ensures.cases.0 at shape))

pub returns-in-NotDue : goal.returns-in-NotDue
returns-in-NotDue c =
    let number = answer_found _ _ _ _ c.try_from.ensures c.ok.ensures.value c.in_ok-ok.was in
    not_due_read _ _ _ _ c.in_ok-what.ensures.cases.0 (sym (ap answer_number c.in-NotDue.is) ∙ number) (made _ (message.Answer given.NotDue) _ _ c.bare.ensures (λ x h. search rules))

pub returns-in-NoHeadSoLate : goal.returns-in-NoHeadSoLate
returns-in-NoHeadSoLate c =
    let number = answer_found _ _ _ _ c.try_from.ensures c.ok.ensures.value c.in_ok-ok.was in
    no_head_read _ _ _ _ c.in_ok-what.ensures.cases.0 (sym (ap answer_number c.in-NoHeadSoLate.is) ∙ number) (made _ (message.Answer given.NoHeadSoLate) _ _ c.bare-in-NoHeadSoLate.ensures (λ x h. search rules))
