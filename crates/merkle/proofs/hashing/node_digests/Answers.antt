use Rattle.std.proofs.Common.{rules, ◌≡◌, ℕ, ◌<◌, [], get_or, ap, ◌∙◌}
use Rattle.merkle.proofs.Rows.{nodes_of_eight}
use Rattle.merkle.proofs.hashing.node_digests.Goals as goal

pub returns : goal.returns
returns c =
    let wrapped : (i : ℕ) → i < 4 → get_or c.map.result i (record { bytes = [] }) ≡ record { bytes = get_or c.sha256_four.result i [] } =
    search rules in
    nodes_of_eight c.args.children.now c.map.result c.pairs.result c.told-children c.map.ensures.items.long
    (λ i l. wrapped i l ∙ ap (λ b. record { bytes = b }) (c.sha256_four.ensures i l)) c.pairs.ensures
