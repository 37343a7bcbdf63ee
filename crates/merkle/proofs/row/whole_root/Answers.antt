use Rattle.std.proofs.Common.{[], ◌∙◌, ap₂}
use Rattle.merkle.specs.Digests.{node_of}
use Rattle.merkle.proofs.Rows.{root-of_four}
use Rattle.merkle.proofs.row.whole_root.Goals as goal

pub returns : goal.returns
returns c =
    c.node_digest-3.ensures
    ∙ (ap₂ node_of c.node_digest.ensures c.node_digest-2.ensures
    ∙ root-of_four c.args.size c.args.row.now c.quarters-roots.result (record { bytes = [] }) c.requires.power c.requires.long c.quarters-roots.ensures)
