-- A path tells the leaf digest.
use Rattle.merkle_theory.specs.Bytes.{texts}
use Rattle.merkle_theory.specs.Digests.{Long}
use Rattle.merkle_theory.proofs.Digests.{bytes_lawful}
use Rattle.merkle_theory.proofs.Told.{path-told_of_rows}
use Rattle.merkle_theory.proofs.path_tells_the_leaf.Goals as goal

pub returns : goal.returns
returns c = λ hash long. path-told_of_rows (texts hash) Long (bytes_lawful hash long)
