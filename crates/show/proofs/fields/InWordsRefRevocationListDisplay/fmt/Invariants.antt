use Rattle.std.proofs.Common.{◌≡◌, ℕ, List, ◌++◌, codes}
use Rattle.std.specs.Fmt.{HasWritten, IsPlainFormatter}
use Rattle.script.specs.Texts.{hex_of}
use Rattle.wire.specs.Views.{list_of, serials_left}
use Rattle.show.specs.Words.{list_text, listed_serials}
use Rattle.show.proofs.fields.InWordsRefRevocationListDisplay.fmt.Given as goal

abbrev pub invariant-loop-serial : goal.invariant-loop-serial
invariant-loop-serial g l =
    IsPlainFormatter l.fn.f →
    (done : List ℕ) × HasWritten g.W.Write.write_str_gives l.fn.f done l.f
    × (done ++ (listed_serials (serials_left l.serial-iterator) ++ (codes ", signature " ++ hex_of (list_of l.fn.self.0.now).seal)) ≡ list_text (list_of l.fn.self.0.now))
