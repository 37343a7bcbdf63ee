-- What a reader answers. Assumes nothing.
use Rattle.std.specs.Prelude.{◌≡◌, ℕ, ◌*◌, ◌/◌, ◌^◌, ◌<◌, List, ◌∷◌, length, Some, Option, Result, MatchOption, MatchResult, slice_index}
use Rattle.wire_theory.specs.Bytes.{Bytes, big, number, numbers, part}
use Rattle.wire_theory.specs.Messages.{Encodes, Fits, Rising, encode}
use Rattle.wire_theory.specs.Messages as msg
use Rattle.wire_theory.specs.Shapes.{AnswerShape, Shape}
use Rattle.wire.specs.declared.refusal.Refusal.{Refusal}
use Rattle.wire.specs.Refusals.{refusal_number}
use Rattle.wire.specs.declared.message.Message.{Message}
use Rattle.wire.specs.declared.kind.AnswerKind.{AnswerKind}
use Rattle.wire.specs.declared.kind.Kind.{Kind}
use Rattle.wire.specs.Kinds.{answer_number, kind_number}
use Rattle.wire.specs.Sound.{Sound, Whole}
use Rattle.wire.specs.Views.{message_of}

-- the bytes are those of this message, which is well-formed
pub record Reads (s : Bytes) (m : Message) : Type 0 where
  pub encodes : Encodes encode Fits s (message_of m)
  pub sound : Sound m

-- the message of this kind with these bytes behind it, or they haven't the shape of that kind
abbrev pub OfKind : Kind → Bytes → Option Message → Type 0
OfKind kind body r = MatchOption r (Shape (kind_number kind) (kind_number kind ∷ body) → ⊥) (Reads (kind_number kind ∷ body))

-- the same of a monitor's answer of this kind, behind both
abbrev pub OfAnswer : AnswerKind → Bytes → Option Message → Type 0
OfAnswer what body r = MatchOption r (AnswerShape (answer_number what) (29 ∷ (answer_number what ∷ body)) → ⊥) (Reads (29 ∷ (answer_number what ∷ body)))

-- the message whose bytes these are; or 1, and they are those of no message
abbrev pub ReadsOrRefuses : Bytes → Result Message Refusal → Type 0
ReadsOrRefuses s r = MatchResult r (Reads s) (λ e. (refusal_number e ≡ Some 1) × ((m : msg.Message) → Encodes encode Fits s m → ⊥))

-- n numbers of eight bytes each, rising
pub record RisingNumbers (s : Bytes) (n : ℕ) : Type 0 where
  pub each : (k : ℕ) → k < n → big 8 (number (part (8 * k) 8 s)) ≡ part (8 * k) 8 s
  pub small : (k : ℕ) → k < n → number (part (8 * k) 8 s) < 2 ^ 64
  pub rising : Rising (numbers 8 s)

-- all of them
abbrev pub RisingRow : Bytes → Type 0
RisingRow s = Whole 8 s × RisingNumbers s (length s / 8)

-- one of the numbers is n
abbrev pub Member : ℕ → List ℕ → Type 0
Member n xs = (k : ℕ) × (k < length xs) × (slice_index xs k ≡ n)
