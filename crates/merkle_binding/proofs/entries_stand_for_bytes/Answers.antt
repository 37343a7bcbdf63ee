-- The entries over bytes agree with their row.
use Rattle.merkle_binding.proofs.Entries.{bytes_agree}
use Rattle.merkle_binding.proofs.entries_stand_for_bytes.Goals as goal

pub returns : goal.returns
returns c = bytes_agree
