use Rattle.std.proofs.Common.{length}
use Rattle.merkle.proofs.row.+root_of.Given as goal

abbrev pub decreases-root_of : goal.decreases-root_of
decreases-root_of l = length l.row.now
