use Rattle.std.proofs.Common.{sym, ◌∙◌, arith}
use Rattle.wire.proofs.Taken.{included_read}
use Rattle.wire.proofs.Begun.{included_path, included_place, path_ends}
use Rattle.wire.proofs.read_answers.included.Goals as goal

pub returns-in_err-place : goal.returns-in_err-place
returns-in_err-place c = rw c.from_residual-in_err-place.ensures (λ shape. omega (arith, c.in_err-place.ensures, included_place _ _ _ (sym c.of-fields.ensures ∙ c.in_ok-head.ensures.0, c.in_ok-head.ensures.1) shape))

pub returns-in_err-path : goal.returns-in_err-path
returns-in_err-path c = rw c.from_residual-in_err-path.ensures (λ shape. c.in_err-path.ensures (omega (arith, included_path _ _ _ _ _ (sym c.of-fields.ensures ∙ c.in_ok-head.ensures.0, c.in_ok-head.ensures.1) c.in_ok-place.ensures.0 shape)))

pub returns-in_err-end : goal.returns-in_err-end
returns-in_err-end c = rw c.from_residual-in_err-end.ensures (λ shape. c.in_err-end.ensures (path_ends _ _ c.in_ok-path.path c.in_ok-path.ensures (included_path _ _ _ _ _ (sym c.of-fields.ensures ∙ c.in_ok-head.ensures.0, c.in_ok-head.ensures.1) c.in_ok-place.ensures.0 shape)))

pub returns : goal.returns
returns c = record { encodes = included_read _ _ _ _ _ _ _ (sym c.of-fields.ensures ∙ c.in_ok-head.ensures.0, c.in_ok-head.ensures.1) c.in_ok-place.ensures.0 (omega arith) c.in_ok-path.ensures.0 c.in_ok-path.ensures.1 c.in_ok-end.ensures; sound = c.in_ok-path.ensures.2 }
