use Rattle.std.proofs.Common.{arith}
use Rattle.merkle.proofs.Sizes.{room_below, right_small, turn_noted, turn_fits}
use Rattle.merkle.proofs.way.Way.to_right.Goals as goal

pub overflow_mul-result : goal.overflow_mul-result
overflow_mul-result c = omega (arith, turn_fits c.args.self c.requires.many)

pub overflow_add-result-2 : goal.overflow_add-result-2
overflow_add-result-2 c = omega (arith, turn_fits c.args.self c.requires.many)

pub invariant_of-result : goal.invariant_of-result
invariant_of-result c =
    let w = c.args.self in
    let many = c.requires.many in record {
      inside = omega (arith, w.inside, c.requires.here);
      deep = omega (arith, room_below w many);
      small = omega (arith, right_small w many, c.requires.size);
      noted = turn_noted w many;
    }
