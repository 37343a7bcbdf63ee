use Rattle.std.proofs.Common.{[]}
use Rattle.merkle.proofs.hashing.tagged.Goals as goal

pub returns : goal.returns
returns c = c.finalize.ensures _ (c.update-2.ensures _ (c.update.ensures [] c.new-hasher.ensures))
