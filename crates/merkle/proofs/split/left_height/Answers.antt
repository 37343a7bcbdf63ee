use Rattle.merkle.proofs.Sizes.{left_of_few, left_of_log}
use Rattle.merkle.proofs.split.left_height.Goals as goal

pub returns-then-count-lt2-clause-is : goal.returns-then-count-lt2-clause-is
returns-then-count-lt2-clause-is c = left_of_few c.args.count c.if-count-lt2.true

pub returns-else-count-lt2-clause-is : goal.returns-else-count-lt2-clause-is
returns-else-count-lt2-clause-is c = left_of_log c.args.count c.ilog2.result c.if-count-lt2.false c.ilog2.ensures.power_le c.ilog2.ensures.next_power_gt
