use Rattle.std.proofs.Common.{arith}
use Rattle.sha256.proofs.Nodes.{tagged_is}
use Rattle.sha256.proofs.node.tagged.Goals as goal

pub returns : goal.returns
returns c = tagged_is _ _ _ _ _ (omega arith) (omega arith) c.put.ensures c.put-2.ensures
