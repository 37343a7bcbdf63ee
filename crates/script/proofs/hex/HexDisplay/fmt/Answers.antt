use Rattle.std.proofs.Common.{rules}
use Rattle.std.proofs.Output.{has_written_append, has_written_of_eq}
use Rattle.script.proofs.Hexes.{hex_more}
use Rattle.script.proofs.hex.HexDisplay.fmt.Goals as goal

pub loop-b-preserved : goal.loop-b-preserved
loop-b-preserved g c = λ plain.
    let so_far = c.loop-b.invariant plain in
    let high = c.write_char.ensures.writes so_far.plain (search rules) in
    let low = c.write_char-in-loop-b.ensures.writes high.plain (search rules) in
    has_written_of_eq _ _ _ _ _
    (hex_more c.args.self.now.0.now c.loop-b.b-index _ _ c.loop-b-test.true (search rules) c.digit_char.ensures.value c.digit_char-in-loop-b.ensures.value)
    (has_written_append _ _ _ _ _ _ (has_written_append _ _ _ _ _ _ so_far high) low)
