use Rattle.merkle.proofs.row.+quarters.Given as goal

abbrev pub decreases-quarters : goal.decreases-quarters
decreases-quarters l = l.size
