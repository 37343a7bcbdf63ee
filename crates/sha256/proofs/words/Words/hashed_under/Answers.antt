-- Each turn of the inner loop is one more round ahead.
use Rattle.std.proofs.Common.{◌+◌, ◌*◌, [], get_or, refl, ap, ◌∙◌, arith}
use Rattle.std.proofs.lemmas.Fn.{says_at}
use Rattle.sha256.specs.Standard.{◌⊞◌, plus}
use Rattle.sha256.specs.Steps.{turned, ahead, with_h}
use Rattle.sha256.specs.Lanes.{lane_of}
use Rattle.sha256.proofs.Ahead.{ahead_more, ahead_at}
use Rattle.sha256.proofs.Chunked.{eights_at}
use Rattle.sha256.proofs.Lanewise.{column_at}
use Rattle.sha256.proofs.words.Words.hashed_under.Goals as goal

pub loop-eight-init : goal.loop-eight-init
unfolding ahead with_h
loop-eight-init g c =
    λ i m h e. let lane = g.W.Word.lane i in
    ap (with_h (lane_of lane c.args.self)) (c.sum.ensures i h ∙ ap (λ k. lane c.args.self.h ⊞ k) (e _ _ (says_at g.F.Fn c.own.ensures refl) ∙ column_at m c.args.keys.now 0 [] (omega arith)))

pub loop-key-init : goal.loop-key-init
loop-key-init g c = λ i m h e. ahead_at _ _ _ _ _ (omega arith) (c.loop-eight.invariant i m h e)

pub loop-key-preserved : goal.loop-key-preserved
loop-key-preserved g c =
    let keys = c.args.keys.now in
    let s = c.loop-key.s in
    let read = eights_at keys _ c.loop-eight.eight-index c.loop-key.key-index [] c.told-keys c.as_chunks.ensures.front c.loop-eight-test.true c.as_chunks.ensures.front_len c.loop-key-test.true in
    λ i m h e. let lane = g.W.Word.lane i in
    ahead_more _ _ _ _ _ _ (c.loop-key.invariant i m h e) (omega arith)
    (c.turn-s.ensures i h
    ∙ ap (λ k. turned (lane_of lane s) (lane s.g ⊞ k))
    (e _ _ (says_at g.F.Fn c.own-in-loop-key.ensures refl) ∙ ap (λ k. get_or k m 0) read ∙ column_at m keys (8 * c.loop-eight.eight-index + c.loop-key.key-index + 1) [] (omega arith))
    )

pub loop-eight-preserved : goal.loop-eight-preserved
loop-eight-preserved g c = λ i m h e. ahead_at _ _ _ _ _ (omega arith) (c.loop-key.invariant i m h e)

pub returns : goal.returns
returns g c =
    λ i m h e. c.sum-2.ensures i h ∙ ap (plus (lane_of (g.W.Word.lane i) c.args.self)) (ahead_at _ _ _ _ _ (omega arith) (c.loop-eight.invariant i m h e))
