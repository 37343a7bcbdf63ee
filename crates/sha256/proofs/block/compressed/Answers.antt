use Rattle.std.proofs.Common.{sym, refl, ap, ◌∙◌, true-eqb}
use Rattle.sha256.specs.Standard.{hashed}
use Rattle.sha256.proofs.Whole.{hashed_nil, fours_more, fours_all, fours_then}
use Rattle.sha256.proofs.block.compressed.Goals as goal

pub loop-four-init : goal.loop-four-init
loop-four-init c = refl

pub loop-four-preserved : goal.loop-four-preserved
loop-four-preserved c = fours_more _ _ _ _ _ c.loop-four-test.true (c.compressed_lanes-words.ensures.all refl) ∙ c.loop-four.invariant

pub returns-then-is_empty : goal.returns-then-is_empty
returns-then-is_empty c =
    fours_then _ c.loop-four.words _ _ _ c.args.bytes.now _ _ _ c.as_chunks.ensures.front c.as_chunks-2.ensures.front c.as_chunks-2.ensures.back
    (sym (fours_all _ _ _ c.loop-four-test.false) ∙ c.loop-four.invariant)
    (hashed_nil c.loop-four.words c.as_chunks-2.result.1.now (true-eqb _ 0 c.if-is_empty.ensures))

pub returns : goal.returns
returns c =
    fours_then _ c.loop-four.words _ _ _ c.args.bytes.now _ _ _ c.as_chunks.ensures.front c.as_chunks-2.ensures.front c.as_chunks-2.ensures.back
    (sym (fours_all _ _ _ c.loop-four-test.false) ∙ c.loop-four.invariant)
    (c.compressed_lanes.ensures.value ∙ ap (hashed c.loop-four.words) c.as_four.ensures)
