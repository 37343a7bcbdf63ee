use Rattle.std.proofs.Common.{◌∷◌, ◌++◌, sym, ap, ◌∙◌, append_assoc, rules}
use Rattle.std.proofs.Output.{has_written_append}
use Rattle.script.specs.Texts.{hex_of}
use Rattle.show.specs.Words.{listed_digests}
use Rattle.show.proofs.fields.InWordsRefDigestsDisplay.fmt.Goals as goal

pub loop-digest-preserved : goal.loop-digest-preserved
loop-digest-preserved g c = λ plain.
    let so_far = c.loop-digest.invariant plain in
    let part = 32 ∷ hex_of c.in-Some.digest.bytes in (
      so_far.0 ++ part,
      has_written_append _ _ _ _ _ _ so_far.1 (search rules),
      append_assoc so_far.0 part _ ∙ ap (λ ds. so_far.0 ++ listed_digests ds) (sym c.in-Some.ensures.steps) ∙ so_far.2,
    )
