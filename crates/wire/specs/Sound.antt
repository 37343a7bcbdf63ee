-- Rows that are handed on as bytes are whole: no bytes are left over. Assumes nothing.
use Rattle.std.specs.Prelude.{◌≡◌, ℕ, ◌%◌, length}
use Rattle.wire_theory.specs.Bytes.{Bytes}
use Rattle.wire_theory.specs.Shapes.{EntriesShape}
use Rattle.wire.specs.declared.message.MonitorAnswer.{MonitorAnswer}
use Rattle.wire.specs.declared.message.MonitorAnswer.TheVariants as answer
use Rattle.wire.specs.declared.message.Message.{Message}
use Rattle.wire.specs.declared.message.Message.TheVariants as message

abbrev pub Whole : ℕ → Bytes → Type 0
Whole w s = length s % w ≡ 0

abbrev pub SoundAnswer : MonitorAnswer → Type 0
SoundAnswer (answer.Included h place path) = Whole 32 path.bytes.now
SoundAnswer answer.NotDue = Unit {0}
SoundAnswer (answer.Convicts h digests) = Whole 32 digests.bytes.now
SoundAnswer answer.NoHeadSoLate = Unit {0}

abbrev pub Sound : Message → Type 0
Sound (message.Certificate c) = Unit {0}
Sound (message.Sct p) = Unit {0}
Sound (message.TreeHead h) = Unit {0}
Sound (message.RevocationList l) = Whole 8 l.serials.bytes.now
Sound (message.Order o) = Unit {0}
Sound (message.Challenge o) = Unit {0}
Sound (message.Published serial) = Unit {0}
Sound (message.Submit c) = Unit {0}
Sound message.GetHead = Unit {0}
Sound (message.GetInclusion place count) = Unit {0}
Sound (message.GetConsistency from to) = Unit {0}
Sound (message.GetEntries from to) = Unit {0}
Sound (message.Revoke serial signature) = Unit {0}
Sound message.GetList = Unit {0}
Sound (message.Bring c p) = Unit {0}
Sound (message.Present c p q) = Unit {0}
Sound (message.Inclusion path) = Whole 32 path.bytes.now
Sound (message.Consistency path) = Whole 32 path.bytes.now
Sound (message.Entries cs) = EntriesShape cs.bytes.now
Sound (message.Answer a) = SoundAnswer a
Sound message.Accepted = Unit {0}
Sound (message.Refused number) = Unit {0}
