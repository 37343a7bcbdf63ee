use Rattle.std.proofs.Common.{◌∷◌}
use Rattle.wire.proofs.Unknown.{no_kind_found}
use Rattle.wire.proofs.reader.kind_and_body.Goals as goal

pub returns-in_err-kind : goal.returns-in_err-kind
returns-in_err-kind c =
    rw c.from_residual-in_err-kind.ensures
    (λ shape. no_kind_found _ (c.in_ok-first.first.now ∷ c.in_ok-first.body.now) _ _ c.try_from.ensures c.ok.ensures.value c.in_err-kind.was (rw c.in_ok-first.ensures.cases.0 at shape))
