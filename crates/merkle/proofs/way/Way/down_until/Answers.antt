use Rattle.std.proofs.Common.{suc, subst, arith}
use Rattle.merkle.proofs.Sizes.{fewer_below, level_below}
use Rattle.merkle.proofs.way.Way.down_until.Goals as goal

pub down-smaller : goal.down-smaller
down-smaller g c =
    let went = subst (λ r. goal.F-post g c.args.ends c.down.way r) c.if-ends.false c.ends.ensures in
    fewer_below c.down.way c.down-way.result (c.requires.goes_on c.down.way went) c.down-way.ensures

pub down-preserved : goal.down-preserved
down-preserved g c =
    let went = subst (λ r. goal.F-post g c.args.ends c.down.way r) c.if-ends.false c.ends.ensures in
    let (k, before) = c.down.invariant.1 in
    (omega (arith, level_below c.down.way c.down-way.result c.down-way.ensures), (suc k, (c.down.way, before, went, c.down-way.ensures)))
