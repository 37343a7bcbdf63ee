-- What is taken from the front of bytes: what they were is what is taken and what is left. Assumes nothing.
use Rattle.std.specs.Prelude.{◌≡◌, ℕ, ◌+◌, ◌*◌, ◌<◌, ◌≤◌, ◌∷◌, ◌++◌, length, take, slice_index, Option, MatchOption}
use Rattle.std.specs.Borrow.{Bor}
use Rattle.wire_theory.specs.Bytes.{Bytes, big, number, part}
use Rattle.wire_theory.specs.Messages.{FitsPath, counted, row}
use Rattle.wire.specs.declared.kind.Kind.{Kind}
use Rattle.wire.specs.declared.parts.Digests.{Digests}
use Rattle.wire.specs.Kinds.{kind_number}
use Rattle.wire.specs.Sound.{Whole}
use Rattle.wire.specs.Views.{digests_of}

-- n bytes; or there are fewer
abbrev pub Takes : {A : Type 0} → ℕ → (A → Bytes) → Bytes → Bytes → Option A → Type 0
Takes n bytes_of old new r = MatchOption r (length old < n) (λ a. (old ≡ bytes_of a ++ new) × (length (bytes_of a) ≡ n))

-- a number in four bytes from low to high; or it isn't there
abbrev pub TakesWithin : ℕ → ℕ → Bytes → Bytes → Option ℕ → Type 0
TakesWithin low high old new r =
    MatchOption r (4 ≤ length old → low ≤ number (take 4 old) → number (take 4 old) ≤ high → ⊥) (λ n. (old ≡ big 4 n ++ new) × (low ≤ n) × (n ≤ high))

-- the number of the kind; or it isn't there
abbrev pub TakesKind : Kind → Bytes → Bytes → Option (Unit {0}) → Type 0
TakesKind kind old new r = MatchOption r (slice_index old 0 ≡ kind_number kind → ⊥) (λ _. old ≡ kind_number kind ∷ new)

-- a name of at most 64 bytes, behind its length; or it is longer or isn't whole
abbrev pub TakesName : Bytes → Bytes → Option (Bor Bytes) → Type 0
TakesName old new r =
    MatchOption r (slice_index old 0 ≤ 64 → 1 + slice_index old 0 ≤ length old → ⊥) (λ a. (old ≡ counted a.now ++ new) × (length a.now ≤ 64))

-- digests behind their number; or they aren't whole
abbrev pub TakesPath : Bytes → Bytes → Option Digests → Type 0
TakesPath old new r =
    MatchOption r (1 + 32 * slice_index old 0 ≤ length old → ⊥)
    (λ d. (old ≡ (length (digests_of d) ∷ row (digests_of d)) ++ new) × FitsPath (digests_of d) × Whole 32 d.bytes.now)

-- what fits, from bytes that begin as such do
abbrev pub TakesWhole : {A B : Type 0} → (Bytes → Type 0) → (B → Bytes) → (B → Type 0) → (A → B) → Bytes → Bytes → Option A → Type 0
TakesWhole Begins bytes_of Fits view old new r = MatchOption r (Begins old → ⊥) (λ a. (old ≡ bytes_of (view a) ++ new) × Fits (view a))

abbrev pub BeginsCertificate : Bytes → Type 0
BeginsCertificate s = (slice_index s 0 ≡ 1) × (slice_index s 2 ≤ 64) × (115 + slice_index s 2 ≤ length s)

abbrev pub BeginsSct : Bytes → Type 0
BeginsSct s = (slice_index s 0 ≡ 2) × (106 ≤ length s)

abbrev pub BeginsHead : Bytes → Type 0
BeginsHead s = (slice_index s 0 ≡ 3) × (114 ≤ length s) × (number (part 10 8 s) ≤ 65536)
