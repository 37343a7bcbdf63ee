-- The root tells the row of its leaf digests.
use Rattle.merkle_theory.specs.Bytes.{texts}
use Rattle.merkle_theory.specs.Digests.{Long}
use Rattle.merkle_theory.proofs.Digests.{bytes_lawful}
use Rattle.merkle_theory.proofs.Told.{root-told_of_rows}
use Rattle.merkle_theory.proofs.root_tells_the_row.Goals as goal

pub returns : goal.returns
returns c = λ hash long. root-told_of_rows (texts hash) Long (bytes_lawful hash long)
