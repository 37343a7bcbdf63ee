use Rattle.std.proofs.Common.{refl, arith}
use Rattle.wire.specs.Sound.{Whole}
use Rattle.wire_write.proofs.Short.{path-fits, too_many_digests}
use Rattle.wire_write.proofs.sizes.with_path.Goals as goal
use Rattle.wire_write.proofs.sizes.with_path.Goals.{then-length-ne0-via-then-length-ne0, then-length-ne0-via-else-length-ne0+then-length-gt8160}

pub returns-then-length-ne0 : goal.returns-then-length-ne0
returns-then-length-ne0 c = elim c.then-length-ne0.branch [
  | then-length-ne0-via-then-length-ne0 w ↦ λ whole fits. w.if-length-ne0.true whole
  | then-length-ne0-via-else-length-ne0+then-length-gt8160 w ↦ too_many_digests _ w.if-length-gt8160.true
]

pub returns : goal.returns
returns c = let whole : Whole 32 c.args.path.bytes.now = omega arith in (refl, path-fits _ whole (omega arith), whole)
