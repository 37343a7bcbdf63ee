use Rattle.std.proofs.Common.{sym, ◌∙◌}
use Rattle.wire.proofs.Taken.{present_read}
use Rattle.wire.proofs.Begun.{present_first, present_second, sct_begins, sct_ends}
use Rattle.wire.proofs.read_requests.present.Goals as goal

pub returns-in_err-first : goal.returns-in_err-first
returns-in_err-first c = rw c.from_residual-in_err-first.ensures (λ shape. c.in_err-first.ensures (present_first _ _ _ (sym c.of-fields.ensures ∙ c.in_ok-certificate.ensures.0, c.in_ok-certificate.ensures.1) shape))

pub returns-in_err-second : goal.returns-in_err-second
returns-in_err-second c = rw c.from_residual-in_err-second.ensures (λ shape. c.in_err-second.ensures (sct_begins _ (present_second _ _ _ (sym c.of-fields.ensures ∙ c.in_ok-certificate.ensures.0, c.in_ok-certificate.ensures.1) shape _ _ c.in_ok-first.ensures)))

pub returns-in_err-end : goal.returns-in_err-end
returns-in_err-end c = rw c.from_residual-in_err-end.ensures (λ shape. c.in_err-end.ensures (sct_ends _ _ _ c.in_ok-second.ensures (present_second _ _ _ (sym c.of-fields.ensures ∙ c.in_ok-certificate.ensures.0, c.in_ok-certificate.ensures.1) shape _ _ c.in_ok-first.ensures).1))

pub returns : goal.returns
returns c = record { encodes = present_read _ _ _ _ _ _ _ (sym c.of-fields.ensures ∙ c.in_ok-certificate.ensures.0, c.in_ok-certificate.ensures.1) c.in_ok-first.ensures c.in_ok-second.ensures c.in_ok-end.ensures; sound = tt }
