-- The number of each kind of message, and of each answer of a monitor. Assumes nothing.
use Rattle.std.specs.Prelude.{◌≡◌, ℕ, Result, MatchResult}
use Rattle.wire.specs.declared.kind.Kind.{Kind}
use Rattle.wire.specs.declared.kind.Kind.TheVariants as kind
use Rattle.wire.specs.declared.kind.AnswerKind.{AnswerKind}
use Rattle.wire.specs.declared.kind.AnswerKind.TheVariants as answer
use Rattle.wire.specs.declared.refusal.Refusal.{Refusal}
use Rattle.wire.specs.declared.refusal.Refusal.TheVariants.{Unreadable}

abbrev pub kind_number : Kind → ℕ
kind_number kind.Certificate = 1
kind_number kind.Sct = 2
kind_number kind.TreeHead = 3
kind_number kind.RevocationList = 4
kind_number kind.Order = 5
kind_number kind.Challenge = 6
kind_number kind.Published = 7
kind_number kind.Submit = 8
kind_number kind.GetHead = 9
kind_number kind.GetInclusion = 10
kind_number kind.GetConsistency = 11
kind_number kind.GetEntries = 12
kind_number kind.Revoke = 13
kind_number kind.GetList = 14
kind_number kind.Bring = 15
kind_number kind.Present = 16
kind_number kind.Inclusion = 26
kind_number kind.Consistency = 27
kind_number kind.Entries = 28
kind_number kind.Answer = 29
kind_number kind.Accepted = 30
kind_number kind.Refused = 31

-- the kind that has this number; or none has it
abbrev pub IsKindOf : ℕ → Result Kind Refusal → Type 0
IsKindOf n r = MatchResult r (λ k. kind_number k ≡ n) (λ f. (f ≡ Unreadable) × ((k : Kind) → kind_number k ≡ n → ⊥))

abbrev pub answer_number : AnswerKind → ℕ
answer_number answer.Included = 1
answer_number answer.NotDue = 2
answer_number answer.Convicts = 3
answer_number answer.NoHeadSoLate = 4

abbrev pub IsAnswerKindOf : ℕ → Result AnswerKind Refusal → Type 0
IsAnswerKindOf n r = MatchResult r (λ k. answer_number k ≡ n) (λ f. (f ≡ Unreadable) × ((k : AnswerKind) → answer_number k ≡ n → ⊥))
