-- A consistency proof tells the beginning.
use Rattle.merkle_binding.proofs.Entries.{consistency-tells_entries}
use Rattle.merkle_binding.proofs.consistency_tells_the_beginning.Goals as goal

pub returns : goal.returns
returns c = consistency-tells_entries
