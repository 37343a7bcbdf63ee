use Rattle.std.proofs.Common.{[], ◌∙◌, arith}
use Rattle.merkle.proofs.Rows.{root-of_no_leaf, root-of_leaf, sides_alike}
use Rattle.merkle.proofs.row.+root_of.Goals as goal

pub returns-in-empty : goal.returns-in-empty
returns-in-empty t c = c.empty_root.ensures ∙ root-of_no_leaf c.args.row.now (omega (arith, c.in-empty.len_below))

pub returns-in-len1 : goal.returns-in-len1
returns-in-len1 t c = root-of_leaf c.args.row.now (record { bytes = [] }) (omega (arith, c.in-len1.len_at_least, c.in-len1.len_below))

pub whole_root-requires : goal.whole_root-requires
whole_root-requires t c =
    let (long, power) = sides_alike c.args.row.now c.sides.result.0.now c.sides.result.1.now c.sides.ensures.whole c.sides.ensures.all c.if-left-right.true c.if-left-gt1.true in
    record { long = long; power = power }
