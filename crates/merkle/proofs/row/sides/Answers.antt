use Rattle.std.proofs.Common.{length, take, drop, ap, ◌∙◌, arith}
use Rattle.merkle_theory.proofs.Laws.{split_below}
use Rattle.merkle.proofs.Rows.{sides_are}
use Rattle.merkle.proofs.row.sides.Goals as goal

pub split_at-requires : goal.split_at-requires
split_at-requires c = omega (arith, split_below (length c.args.row.now) c.requires)

pub returns : goal.returns
returns c =
    let row = c.args.row.now in
    let (whole, all, rest, over) = sides_are row c.split_at.result.0.now c.split_at.result.1.now c.requires
    (c.split_at.ensures.front ∙ ap (λ k. take k row) c.left_size.ensures) (c.split_at.ensures.back ∙ ap (λ k. drop k row) c.left_size.ensures) in
    record { whole = whole; all = all; rest = rest; over = over }
