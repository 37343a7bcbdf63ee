-- The field of the bytes is a homomorphism.
use Rattle.merkle_binding.proofs.Bytes.{bytes_carry}
use Rattle.merkle_binding.proofs.digests_stand_for_bytes.Goals as goal

pub returns : goal.returns
returns c = bytes_carry
