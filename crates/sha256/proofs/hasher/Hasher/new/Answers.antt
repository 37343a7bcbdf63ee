use Rattle.std.proofs.Common.{[], refl, arith}
use Rattle.sha256.specs.Standard.{H0, blocks, hashed}
use Rattle.sha256.proofs.hasher.Hasher.new.Goals as goal

pub returns : goal.returns
unfolding H0 blocks hashed
returns c =
    record
    { count = refl; n = 0; whole = []; rest = []; parts = refl; long = refl; few = omega arith; words = refl; kept = refl }
