use Rattle.std.proofs.Common.{◌/◌, List, [], ◌∷◌, get_or, ◌∙◌, ap₂, arith}
use Rattle.merkle.specs.declared.digest.Digest.{Digest}
use Rattle.merkle.specs.Rows.{nodes_over}
use Rattle.merkle.proofs.Rows.{four_leaves, four_of_eight, halved}
use Rattle.merkle.proofs.row.+quarters.Goals as goal

pub returns-then-size-eq1 : goal.returns-then-size-eq1
returns-then-size-eq1 t c = four_leaves c.args.size c.args.row.now (record { bytes = [] }) c.if-size-eq1.true c.requires.long

pub quarters-a-requires : goal.quarters-a-requires
quarters-a-requires t c =
    let (power, halves, less) = halved c.args.size c.requires.power c.if-size-eq1.false in
    (omega arith, (omega arith, power))

pub quarters-b-requires : goal.quarters-b-requires
quarters-b-requires t c =
    let (power, halves, less) = halved c.args.size c.requires.power c.if-size-eq1.false in
    (omega arith, (omega arith, power))

pub returns : goal.returns
returns t c =
    let (power, halves, less) = halved c.args.size c.requires.power c.if-size-eq1.false in
    let d : Digest = record { bytes = [] } in
    c.node_digests.ensures
    ∙ (ap₂ (λ (xs ys : List Digest). nodes_over (get_or xs 0 d ∷ (get_or xs 1 d ∷ (get_or xs 2 d ∷ (get_or xs 3 d ∷ (get_or ys 0 d ∷ (get_or ys 1 d ∷ (get_or ys 2 d ∷ (get_or ys 3 d ∷ [])))))))))
    c.quarters-a.ensures c.quarters-b.ensures
    ∙ four_of_eight (c.args.size / 2) c.args.size c.args.row.now c.split_at.result.0.now c.split_at.result.1.now halves power c.requires.long
    c.split_at.ensures.front c.split_at.ensures.back)
