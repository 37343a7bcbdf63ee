use Rattle.std.proofs.Common.{sym, ◌∙◌}
use Rattle.wire.proofs.Taken.{order_read}
use Rattle.wire.proofs.read_requests.order.Goals as goal

pub returns : goal.returns
returns c = record { encodes = order_read _ _ _ _ _ (sym c.of-fields.ensures ∙ c.in_ok-name.ensures.0, c.in_ok-name.ensures.1) c.in_ok-key.ensures c.in_ok-end.ensures; sound = tt }
