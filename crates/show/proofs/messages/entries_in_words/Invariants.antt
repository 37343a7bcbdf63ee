use Rattle.std.proofs.Common.{◌≡◌, ◌++◌, length, string_bytes, codes}
use Rattle.wire_theory.specs.Shapes.{EntriesShape}
use Rattle.wire.specs.Views.{certificates_of}
use Rattle.show.specs.Words.{listed_certificates}
use Rattle.show.proofs.messages.entries_in_words.Given as goal

-- what is still to be listed gives the whole
abbrev pub invariant-loop-first : goal.invariant-loop-first
invariant-loop-first l =
    EntriesShape l.certificates.bytes.now →
    EntriesShape l.rest.bytes.now × (string_bytes l.text ++ listed_certificates (certificates_of l.rest) ≡ codes "entries:" ++ listed_certificates (certificates_of l.certificates))

abbrev pub decreases-loop-first : goal.decreases-loop-first
decreases-loop-first l = length l.rest.bytes.now
