use Rattle.std.proofs.Common.{◌≡◌, sym, rules, refl, ap, ◌∙◌, add-one, arith}
use Rattle.sha256.specs.Standard.{plus}
use Rattle.sha256.specs.Steps.{column, ahead, under_lanes}
use Rattle.sha256.proofs.round.hashed_under_lanes.Goals as goal

pub loop-lane-init : goal.loop-lane-init
unfolding under_lanes
loop-lane-init c = refl

pub loop-lane-preserved : goal.loop-lane-preserved
unfolding under_lanes
loop-lane-preserved c =
    let keys = c.args.keys.now in
    c.hashed_under-words.ensures 0 c.loop-lane.lane-counter (omega arith) (λ four w e. search rules)
    ∙ ap (λ t. plus t (ahead 64 (column c.loop-lane.lane-counter keys) t)) c.loop-lane.invariant
    ∙ ap (λ n. under_lanes n keys c.args.words) (sym (add-one c.loop-lane.lane-counter))

pub returns : goal.returns
returns c =
    let all : c.loop-lane.lane-counter ≡ c.args.count = omega arith in
    c.loop-lane.invariant ∙ ap (λ n. under_lanes n c.args.keys.now c.args.words) all
