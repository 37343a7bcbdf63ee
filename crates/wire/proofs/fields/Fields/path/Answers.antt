use Rattle.std.proofs.Common.{arith}
use Rattle.wire.proofs.Taken.{path_taken}
use Rattle.wire.proofs.fields.Fields.path.Goals as goal

pub returns : goal.returns
returns c = path_taken _ _ _ _ _ (omega (arith, c.byte.type_inv)) c.in_ok-n.ensures.0 c.digests.ensures
