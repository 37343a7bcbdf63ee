use Rattle.std.proofs.Common.{rules, arith}
use Rattle.sha256.specs.Standard.{schedule}
use Rattle.sha256.proofs.Scheduled.{begun_none, begun_more, begun_at}
use Rattle.sha256.proofs.four.fill_fronts.Goals as goal

pub loop-t-init : goal.loop-t-init
loop-t-init c = begun_none _ _ c.told-keys

pub loop-t-preserved : goal.loop-t-preserved
loop-t-preserved c = begun_more _ _ _ _ c.loop-t-test.true c.loop-t.invariant (λ l h. let e = c.side_by_side.ensures l h in search rules)

pub returns : goal.returns
unfolding schedule
returns c = λ l h. c.extend_keys.ensures l h _ ((begun_at _ 16 _ _ (omega arith) c.loop-t.invariant).words l h)
