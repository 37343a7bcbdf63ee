use Rattle.std.proofs.Common.{ap, ◌∙◌, arith}
use Rattle.sha256.specs.Standard.{H0, digest}
use Rattle.sha256.proofs.Nodes.{node_digest}
use Rattle.sha256.proofs.node.sha256_pair.Goals as goal

pub returns : goal.returns
unfolding H0
returns c =
    c.to_bytes.ensures ∙ node_digest c.tagged-message.result c.padded_end-blocks.result _ (omega arith) (omega arith) c.padded_end-blocks.ensures c.compressed.ensures
    ∙ ap digest c.tagged-message.ensures
