-- By computation.
use Rattle.std.proofs.Common.{refl}
use Rattle.sha256.specs.Standard.{K, H0, padded, first_words, schedule, round, rounds, compress, blocks, hashed, output, digest}
use Rattle.sha256.proofs.theorems.abc_digest.Goals as goal

pub returns : goal.returns
unfolding K H0 padded first_words schedule round rounds compress blocks hashed output digest
returns c = refl
