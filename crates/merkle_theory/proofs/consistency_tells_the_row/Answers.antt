-- A consistency proof tells the beginning of a row.
use Rattle.merkle_theory.specs.Bytes.{texts}
use Rattle.merkle_theory.specs.Digests.{Long}
use Rattle.merkle_theory.proofs.Digests.{bytes_lawful}
use Rattle.merkle_theory.proofs.Told.{consistency-told_of_rows}
use Rattle.merkle_theory.proofs.consistency_tells_the_row.Goals as goal

pub returns : goal.returns
returns c = λ hash long. consistency-told_of_rows (texts hash) Long (bytes_lawful hash long)
