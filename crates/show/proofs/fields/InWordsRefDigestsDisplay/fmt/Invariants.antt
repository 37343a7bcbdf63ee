use Rattle.std.proofs.Common.{◌≡◌, ℕ, List, ◌++◌}
use Rattle.std.specs.Fmt.{HasWritten, IsPlainFormatter}
use Rattle.wire.specs.Views.{digests_left, digests_of}
use Rattle.show.specs.Words.{digests_text, listed_digests}
use Rattle.show.proofs.fields.InWordsRefDigestsDisplay.fmt.Given as goal

abbrev pub invariant-loop-digest : goal.invariant-loop-digest
invariant-loop-digest g l =
    IsPlainFormatter l.fn.f →
    (done : List ℕ) × HasWritten g.W.Write.write_str_gives l.fn.f done l.f × (done ++ listed_digests (digests_left l.digest-iterator) ≡ digests_text (digests_of l.fn.self.0.now))
