-- A consistency proof tells the beginning of a row.
use Rattle.merkle_binding.proofs.Rows.{consistency-tells_row}
use Rattle.merkle_binding.proofs.consistency_tells_the_row.Goals as goal

pub returns : goal.returns
returns c = consistency-tells_row
