use Rattle.std.proofs.Common.{arith}
use Rattle.script.proofs.Hexes.{no_pair, pair_at}
use Rattle.show.proofs.Texts.{pair_pushed}
use Rattle.show.proofs.digits.bytes_from_hex.Goals as goal

pub returns-in_default : goal.returns-in_default
returns-in_default c =
    let i = c.loop-pair.pair-index in
    let at = pair_at c.args.digits.now _ i _ _ c.as_chunks.ensures.front (omega (arith, c.loop-pair-test.true, c.as_chunks.ensures.front_len)) in
    λ bs h. no_pair _ _ bs i at c.in_default.ensures (h.pairs i (omega (arith, h.long, c.loop-pair-test.true, c.as_chunks.ensures.front_len)))

pub loop-pair-preserved : goal.loop-pair-preserved
loop-pair-preserved c =
    let i = c.loop-pair.pair-index in
    let at = pair_at c.args.digits.now _ i _ _ c.as_chunks.ensures.front (omega (arith, c.loop-pair-test.true, c.as_chunks.ensures.front_len)) in
    pair_pushed _ _ _ _ i _ c.loop-pair.invariant.0 c.loop-pair.invariant.1 at c.in-Some.ensures c.in_ok-push.ensures.items
