use Rattle.std.proofs.Common.{◌∷◌, sym, ap, ◌∙◌}
use Rattle.wire.proofs.Taken.{head_read}
use Rattle.wire.proofs.Begun.{head_ends}
use Rattle.wire.proofs.read_signed.tree_head.Goals as goal

pub returns-in_err-end : goal.returns-in_err-end
returns-in_err-end c = rw c.from_residual-in_err-end.ensures (λ shape. c.in_err-end.ensures (head_ends _ _ _ (ap (λ s. 3 ∷ s) (sym c.of-fields.ensures) ∙ c.in_ok-head.ensures.0, c.in_ok-head.ensures.1) shape.1))

pub returns : goal.returns
returns c = record { encodes = head_read _ _ _ (ap (λ s. 3 ∷ s) (sym c.of-fields.ensures) ∙ c.in_ok-head.ensures.0, c.in_ok-head.ensures.1) c.in_ok-end.ensures; sound = tt }
