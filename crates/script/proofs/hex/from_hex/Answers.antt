use Rattle.std.proofs.Common.{arith, length-set}
use Rattle.script.proofs.Hexes.{no_pair, pair_at, pair_more}
use Rattle.script.proofs.hex.from_hex.Goals as goal

pub returns-in_err-bytes : goal.returns-in_err-bytes
returns-in_err-bytes c =
    let at = pair_at c.args.word.now _ c.loop-i.i _ _ c.as_chunks.ensures.front (omega arith) in
    rw c.from_residual.ensures (λ d hex. no_pair _ _ d.bytes c.loop-i.i at c.in_err-bytes.ensures (hex.pairs c.loop-i.i (omega arith)))

pub loop-i-preserved : goal.loop-i-preserved
loop-i-preserved c = (
  simp length-set c.loop-i.invariant.0,
  pair_more c.args.word.now _ _ c.loop-i.i _ (omega arith) c.loop-i.invariant.1
      (pair_at c.args.word.now _ c.loop-i.i _ _ c.as_chunks.ensures.front (omega arith))
      c.in_ok-bytes.ensures,
)
