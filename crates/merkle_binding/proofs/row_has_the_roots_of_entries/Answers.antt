-- The row agrees with its entries.
use Rattle.merkle_binding.proofs.Entries.{row_agrees}
use Rattle.merkle_binding.proofs.row_has_the_roots_of_entries.Goals as goal

pub returns : goal.returns
returns c = row_agrees
