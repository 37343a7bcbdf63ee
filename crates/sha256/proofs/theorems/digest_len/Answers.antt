use Rattle.std.proofs.Common.{refl}
use Rattle.sha256.proofs.Digests.{digest_long, digest_bytes}
use Rattle.sha256.proofs.theorems.digest_len.Goals as goal

pub returns : goal.returns
returns c = record { value = refl; long = digest_long; bytes = digest_bytes }
