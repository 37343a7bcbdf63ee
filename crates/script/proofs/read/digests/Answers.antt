use Rattle.std.proofs.Common.{sym, ◌∙◌}
use Rattle.script.proofs.Spoken.{bad_digest_at, handed_on, hexes_more}
use Rattle.script.proofs.read.digests.Goals as goal

pub returns-in_err-digest : goal.returns-in_err-digest
returns-in_err-digest c =
    handed_on _ _ c.from_residual.result c.in_err-digest.field-0.0 c.from_residual.ensures.1
    (bad_digest_at c.args.words.now c.loop-word.word-index _ _ _ c.loop-word-test.true c.from_hex.ensures (sym c.ok_or.ensures.value ∙ c.in_err-digest.was))

pub loop-word-preserved : goal.loop-word-preserved
loop-word-preserved c =
    hexes_more c.args.words.now c.loop-word.word-index _ _ _ _ c.loop-word-test.true c.loop-word.invariant (rw c.in_ok-digest.ensures.ok_part at c.from_hex.ensures) c.in_ok-push.ensures.items
