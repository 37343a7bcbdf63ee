-- A path tells the entry.
use Rattle.merkle_theory.specs.Bytes.{texts}
use Rattle.merkle_theory.specs.Digests.{Long}
use Rattle.merkle_theory.proofs.Digests.{bytes_lawful}
use Rattle.merkle_theory.proofs.Told.{path-told_of_entries}
use Rattle.merkle_theory.proofs.path_tells_the_entry.Goals as goal

pub returns : goal.returns
returns c = λ hash long. path-told_of_entries (texts hash) Long (bytes_lawful hash long)
