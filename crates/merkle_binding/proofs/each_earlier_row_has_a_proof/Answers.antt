-- The consistency proof is there.
use Rattle.merkle_binding.proofs.Rows.{consistency-from_row}
use Rattle.merkle_binding.proofs.each_earlier_row_has_a_proof.Goals as goal

pub returns : goal.returns
returns c = consistency-from_row
