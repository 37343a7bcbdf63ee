-- What is needed to write a message, and how many bytes it takes. Assumes nothing.
use Rattle.std.specs.Prelude.{◌≡◌, ℕ, ◌+◌, length, Option, MatchOption}
use Rattle.wire_theory.specs.Messages.{Fits, FitsAnswer}
use Rattle.wire.specs.declared.certificate.Certificate.{Certificate}
use Rattle.wire.specs.declared.list.RevocationList.{RevocationList}
use Rattle.wire.specs.declared.message.MonitorAnswer.{MonitorAnswer}
use Rattle.wire.specs.declared.message.MonitorAnswer.TheVariants as answer
use Rattle.wire.specs.declared.message.Message.{Message}
use Rattle.wire.specs.declared.message.Message.TheVariants as message
use Rattle.wire.specs.Reading.{RisingRow}
use Rattle.wire.specs.Sound.{Sound, SoundAnswer}
use Rattle.wire.specs.Views.{answer_of, message_of}

abbrev pub certificate_size : Certificate → ℕ
certificate_size c = 115 + length c.name.now

abbrev pub list_size : RevocationList → ℕ
list_size l = 76 + length l.serials.bytes.now

abbrev pub answer_size : MonitorAnswer → ℕ
answer_size (answer.Included h place path) = 125 + length path.bytes.now
answer_size answer.NotDue = 2
answer_size (answer.Convicts h digests) = 116 + length digests.bytes.now
answer_size answer.NoHeadSoLate = 2

abbrev pub size : Message → ℕ
size (message.Certificate c) = certificate_size c
size (message.Sct p) = 106
size (message.TreeHead h) = 114
size (message.RevocationList l) = list_size l
size (message.Order o) = 34 + length o.name.now
size (message.Challenge o) = 25
size (message.Published serial) = 9
size (message.Submit c) = 1 + certificate_size c
size message.GetHead = 1
size (message.GetInclusion place count) = 17
size (message.GetConsistency from to) = 17
size (message.GetEntries from to) = 17
size (message.Revoke serial signature) = 73
size message.GetList = 1
size (message.Bring c p) = 107 + certificate_size c
size (message.Present c p q) = 213 + certificate_size c
size (message.Inclusion path) = 2 + length path.bytes.now
size (message.Consistency path) = 2 + length path.bytes.now
size (message.Entries cs) = 1 + length cs.bytes.now
size (message.Answer a) = answer_size a
size message.Accepted = 1
size (message.Refused number) = 2

-- serials that can be copied as they stand
abbrev pub Copied : Message → Type 0
Copied (message.RevocationList l) = RisingRow l.serials.bytes.now
Copied (message.Certificate c) = Unit {0}
Copied (message.Sct p) = Unit {0}
Copied (message.TreeHead h) = Unit {0}
Copied (message.Order o) = Unit {0}
Copied (message.Challenge o) = Unit {0}
Copied (message.Published serial) = Unit {0}
Copied (message.Submit c) = Unit {0}
Copied message.GetHead = Unit {0}
Copied (message.GetInclusion place count) = Unit {0}
Copied (message.GetConsistency from to) = Unit {0}
Copied (message.GetEntries from to) = Unit {0}
Copied (message.Revoke serial signature) = Unit {0}
Copied message.GetList = Unit {0}
Copied (message.Bring c p) = Unit {0}
Copied (message.Present c p q) = Unit {0}
Copied (message.Inclusion path) = Unit {0}
Copied (message.Consistency path) = Unit {0}
Copied (message.Entries cs) = Unit {0}
Copied (message.Answer a) = Unit {0}
Copied message.Accepted = Unit {0}
Copied (message.Refused number) = Unit {0}

-- what is needed to write a monitor's answer
pub record ReadyAnswer (a : MonitorAnswer) : Type 0 where
  pub fits : FitsAnswer (answer_of a)
  pub sound : SoundAnswer a

pub record Ready (m : Message) : Type 0 where
  pub fits : Fits (message_of m)
  pub sound : Sound m
  pub copied : Copied m

-- how many bytes to write, or the message isn't well-formed
abbrev pub Writes : Message → Option ℕ → Type 0
Writes m r = MatchOption r (Sound m → Fits (message_of m) → ⊥) (λ n. (n ≡ size m) × Ready m)
