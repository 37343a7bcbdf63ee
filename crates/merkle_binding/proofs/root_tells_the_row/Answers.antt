-- The root tells the row.
use Rattle.merkle_binding.proofs.Rows.{root-tells_row}
use Rattle.merkle_binding.proofs.root_tells_the_row.Goals as goal

pub returns : goal.returns
returns c = root-tells_row
