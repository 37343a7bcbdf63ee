use Rattle.std.proofs.Common.{sym, ◌∙◌, arith}
use Rattle.wire.proofs.Taken.{settings_read}
use Rattle.wire.proofs.Begun.{settings_second, settings_third, settings_end}
use Rattle.wire.proofs.reader.settings.Goals as goal

pub returns-in_err-word_within-2 : goal.returns-in_err-word_within-2
returns-in_err-word_within-2 c = rw c.from_residual-in_err-word_within-2.ensures (λ shape. let h = settings_second _ _ _ (sym c.of-fields.ensures ∙ c.in_ok-word_within.ensures.0) shape in c.in_err-word_within-2.ensures (omega (arith, h.0)) h.1.0 h.1.1)

pub returns-in_err-word_within-3 : goal.returns-in_err-word_within-3
returns-in_err-word_within-3 c = rw c.from_residual-in_err-word_within-3.ensures (λ shape. let h = settings_third _ _ _ _ _ (sym c.of-fields.ensures ∙ c.in_ok-word_within.ensures.0) c.in_ok-word_within-2.ensures.0 shape in c.in_err-word_within-3.ensures (omega (arith, h.0)) h.1.0 h.1.1)

pub returns-in_err-end : goal.returns-in_err-end
returns-in_err-end c = rw c.from_residual-in_err-end.ensures (λ shape. c.in_err-end.ensures (settings_end _ _ _ _ _ _ _ (sym c.of-fields.ensures ∙ c.in_ok-word_within.ensures.0) c.in_ok-word_within-2.ensures.0 c.in_ok-word_within-3.ensures.0 shape))

pub returns : goal.returns
returns c =
    let a = c.in_ok-word_within.ensures in
    let b = c.in_ok-word_within-2.ensures in
    let d = c.in_ok-word_within-3.ensures in
    settings_read _ _ _ _ _ (sym c.of-fields.ensures ∙ a.0) b.0 d.0 c.in_ok-end.ensures (record { mmd = (a.1, a.2); freshness = (b.1, b.2); lifetime = (d.1, d.2) })
