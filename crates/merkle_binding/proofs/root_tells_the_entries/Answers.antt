-- The root tells the entries.
use Rattle.merkle_binding.proofs.Entries.{root-tells_entries}
use Rattle.merkle_binding.proofs.root_tells_the_entries.Goals as goal

pub returns : goal.returns
returns c = root-tells_entries
