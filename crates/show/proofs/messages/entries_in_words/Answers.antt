use Rattle.std.proofs.Common.{◌++◌, string_bytes, sym, ap, ◌∙◌, append-nil}
use Rattle.wire_theory.proofs.Follows.{fewer_behind, first_of_all, none_left}
use Rattle.wire.specs.Views.{certificate_of, certificates_of}
use Rattle.show.specs.Words.{listed_certificates}
use Rattle.show.proofs.Texts.{one_line_more}
use Rattle.show.proofs.messages.entries_in_words.Goals as goal

pub loop-first-init : goal.loop-first-init
loop-first-init c = λ all. (all, ap (λ t. t ++ listed_certificates (certificates_of c.args.certificates.now)) c.in_ok-text.ensures.ok)

pub loop-first-smaller : goal.loop-first-smaller
loop-first-smaller c = let h = c.in-Some.ensures in fewer_behind _ _ _ h.1 h.0

pub loop-first-preserved : goal.loop-first-preserved
loop-first-preserved c =
    λ all. let h = c.in-Some.ensures in
    let before = c.loop-first.invariant all in
    let step = first_of_all _ _ _ h.1 h.0 before.0 in
    (step.0, one_line_more _ _ (certificate_of c.in-Some.first) _ _ _ step.1 before.1 c.in_ok-write.ensures.bytes)

pub returns : goal.returns
returns c =
    λ all. let done = c.loop-first.invariant all in
    sym (append-nil _) ∙ ap (λ cs. string_bytes c.loop-first.text ++ listed_certificates cs) (sym (none_left _ c.in_default.ensures done.0)) ∙ done.1
