use Rattle.std.proofs.Common.{sym, ◌∙◌}
use Rattle.wire.proofs.Taken.{bring_read}
use Rattle.wire.proofs.Begun.{bring_sct, sct_begins, sct_ends}
use Rattle.wire.proofs.read_requests.bring.Goals as goal

pub returns-in_err-sct : goal.returns-in_err-sct
returns-in_err-sct c = rw c.from_residual-in_err-sct.ensures (λ shape. c.in_err-sct.ensures (sct_begins _ (bring_sct _ _ _ (sym c.of-fields.ensures ∙ c.in_ok-certificate.ensures.0, c.in_ok-certificate.ensures.1) shape)))

pub returns-in_err-end : goal.returns-in_err-end
returns-in_err-end c = rw c.from_residual-in_err-end.ensures (λ shape. c.in_err-end.ensures (sct_ends _ _ _ c.in_ok-sct.ensures (bring_sct _ _ _ (sym c.of-fields.ensures ∙ c.in_ok-certificate.ensures.0, c.in_ok-certificate.ensures.1) shape).1))

pub returns : goal.returns
returns c = record { encodes = bring_read _ _ _ _ _ (sym c.of-fields.ensures ∙ c.in_ok-certificate.ensures.0, c.in_ok-certificate.ensures.1) c.in_ok-sct.ensures c.in_ok-end.ensures; sound = tt }
