use Rattle.std.proofs.Common.{sym, ◌∙◌, arith}
use Rattle.wire.proofs.Taken.{evidence_read, row_taken}
use Rattle.wire.proofs.Begun.{evidence_digests, evidence_head, row_ends}
use Rattle.wire.proofs.reader.evidence.Goals as goal

pub returns-in_err-head : goal.returns-in_err-head
returns-in_err-head c = rw c.from_residual-in_err-head.ensures (λ shape. c.in_err-head.ensures (evidence_head _ _ _ (sym c.of-fields.ensures ∙ c.in_ok-sct.ensures.0, c.in_ok-sct.ensures.1) shape))

pub returns-in_err-digests : goal.returns-in_err-digests
returns-in_err-digests c = rw c.from_residual-in_err-digests.ensures (λ shape. omega (arith, c.in_err-digests.ensures, evidence_digests _ _ _ _ _ (sym c.of-fields.ensures ∙ c.in_ok-sct.ensures.0, c.in_ok-sct.ensures.1) c.in_ok-head.ensures shape))

pub returns-in_err-end : goal.returns-in_err-end
returns-in_err-end c = rw c.from_residual-in_err-end.ensures (λ shape. c.in_err-end.ensures (row_ends _ _ _ _ c.in_ok-digests.ensures (evidence_digests _ _ _ _ _ (sym c.of-fields.ensures ∙ c.in_ok-sct.ensures.0, c.in_ok-sct.ensures.1) c.in_ok-head.ensures shape)))

pub returns : goal.returns
returns c =
    let rest = row_taken _ _ c.in_ok-digests.digests _ c.in_ok-digests.ensures c.in_ok-end.ensures in
    evidence_read _ _ _ _ _ _ (sym c.of-fields.ensures ∙ c.in_ok-sct.ensures.0, c.in_ok-sct.ensures.1) c.in_ok-head.ensures rest.0 rest.1 rest.2
