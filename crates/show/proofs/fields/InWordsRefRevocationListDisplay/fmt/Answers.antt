use Rattle.std.proofs.Common.{◌∷◌, ◌++◌, codes, decimal, sym, ap, ◌∙◌, append_assoc, rules}
use Rattle.std.proofs.Output.{has_written_append, has_written_of_eq}
use Rattle.script.specs.Texts.{hex_of}
use Rattle.wire.specs.Views.{serials_left}
use Rattle.show.specs.Words.{listed_serials}
use Rattle.show.proofs.fields.InWordsRefRevocationListDisplay.fmt.Goals as goal

pub loop-serial-preserved : goal.loop-serial-preserved
loop-serial-preserved g c = λ plain.
    let so_far = c.loop-serial.invariant plain in
    let part = 32 ∷ decimal c.in-Some.serial in
    let rest = listed_serials (serials_left c.next.new.self) in
    let end = codes ", signature " ++ hex_of c.args.self.now.0.now.signature.bytes in (
      so_far.0 ++ part,
      has_written_append _ _ _ _ _ _ so_far.1 (search rules),
      append_assoc so_far.0 part (rest ++ end) ∙ ap (λ t. so_far.0 ++ t) (sym (append_assoc part rest end)) ∙ ap (λ ns. so_far.0 ++ (listed_serials ns ++ end)) (sym c.in-Some.ensures.steps) ∙ so_far.2,
    )

pub returns-clause-writes : goal.returns-clause-writes
returns-clause-writes g c = λ plain done.
    let so_far = c.loop-serial.invariant plain in
    let end = codes ", signature " ++ hex_of c.args.self.now.0.now.signature.bytes in
    has_written_of_eq _ _ _ _ _ (ap (λ ns. so_far.0 ++ (listed_serials ns ++ end)) (sym c.in-None.ensures.steps.0) ∙ so_far.2)
    (has_written_append _ _ _ _ _ _ so_far.1 (search rules))
