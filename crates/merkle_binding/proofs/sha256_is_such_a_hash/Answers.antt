-- SHA-256 has 32 bytes.
use Rattle.merkle_binding.proofs.Bytes.{sha256_long}
use Rattle.merkle_binding.proofs.sha256_is_such_a_hash.Goals as goal

pub returns : goal.returns
returns c = sha256_long
