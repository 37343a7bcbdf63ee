-- A path tells the entry.
use Rattle.merkle_binding.proofs.Entries.{path-tells_entry}
use Rattle.merkle_binding.proofs.path_tells_the_entry.Goals as goal

pub returns : goal.returns
returns c = path-tells_entry
