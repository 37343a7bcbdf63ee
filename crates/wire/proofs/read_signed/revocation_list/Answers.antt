use Rattle.std.proofs.Common.{sym, refl, ◌∙◌, arith}
use Rattle.wire.proofs.Taken.{list_read}
use Rattle.wire.proofs.Begun.{list_few, list_left, list_long, list_rising, row_ends}
use Rattle.wire.proofs.read_signed.revocation_list.Goals as goal

pub returns-then-count-gt1024 : goal.returns-then-count-gt1024
returns-then-count-gt1024 c = λ shape. omega (arith, list_few _ _ _ _ _ _ _ (sym c.of-fields.ensures ∙ c.in_ok-authority.ensures.0) c.in_ok-at.ensures.0 c.in_ok-count.ensures.0 (omega arith) shape)

pub returns-in_err-bytes : goal.returns-in_err-bytes
returns-in_err-bytes c = rw c.from_residual-in_err-bytes.ensures (λ shape. omega (arith, c.in_err-bytes.ensures, list_long _ _ _ _ _ _ _ (sym c.of-fields.ensures ∙ c.in_ok-authority.ensures.0) c.in_ok-at.ensures.0 c.in_ok-count.ensures.0 (omega arith) shape))

pub returns-then-not-are_rising : goal.returns-then-not-are_rising
returns-then-not-are_rising c = λ shape. c.if-not-are_rising.ensures (omega (arith, c.in_ok-bytes.ensures.1)) (list_rising _ _ _ _ _ _ _ (sym c.of-fields.ensures ∙ c.in_ok-authority.ensures.0) c.in_ok-at.ensures.0 c.in_ok-count.ensures.0 (omega arith) shape _ _ c.in_ok-bytes.ensures.0 c.in_ok-bytes.ensures.1)

pub returns-in_err-signature : goal.returns-in_err-signature
returns-in_err-signature c = rw c.from_residual-in_err-signature.ensures (λ shape. omega (arith, c.in_err-signature.ensures, list_left _ _ _ _ _ _ _ (sym c.of-fields.ensures ∙ c.in_ok-authority.ensures.0) c.in_ok-at.ensures.0 c.in_ok-count.ensures.0 (omega arith) shape _ _ c.in_ok-bytes.ensures))

pub returns-in_err-end : goal.returns-in_err-end
returns-in_err-end c = rw c.from_residual-in_err-end.ensures (λ shape. c.in_err-end.ensures (row_ends _ _ _ _ c.in_ok-signature.ensures (list_left _ _ _ _ _ _ _ (sym c.of-fields.ensures ∙ c.in_ok-authority.ensures.0) c.in_ok-at.ensures.0 c.in_ok-count.ensures.0 (omega arith) shape _ _ c.in_ok-bytes.ensures)))

pub returns : goal.returns
returns c =
    record {
      encodes = list_read _ _ _ _ _ _ _ _ _ (sym c.of-fields.ensures ∙ c.in_ok-authority.ensures.0) (omega arith) c.in_ok-at.ensures.0 (omega arith) c.in_ok-count.ensures.0 (omega arith) c.in_ok-bytes.ensures refl c.if-not-are_rising.ensures.1 c.in_ok-signature.ensures c.in_ok-end.ensures;
      sound = c.if-not-are_rising.ensures.0;
    }
