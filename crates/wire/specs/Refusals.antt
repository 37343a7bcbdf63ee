-- The number of each cause, and of each part of evidence that may not be so. Assumes nothing.
use Rattle.std.specs.Prelude.{◌≡◌, ℕ, List, Some, None, codes, Option, MatchOption}
use Rattle.wire.specs.declared.refusal.Part.{Part}
use Rattle.wire.specs.declared.refusal.Part.TheVariants as part
use Rattle.wire.specs.declared.refusal.Refusal.{Refusal}
use Rattle.wire.specs.declared.refusal.Refusal.TheVariants as refusal

abbrev pub part_number : Part → ℕ
part_number part.OneLog = 1
part_number part.LateEnough = 2
part_number part.NotAmong = 3
part_number part.GiveRoot = 4

abbrev pub refusal_number : Refusal → Option ℕ
refusal_number refusal.Unreadable = Some 1
refusal_number refusal.NotThere = Some 2
refusal_number refusal.WrongSignature = Some 3
refusal_number refusal.NotPublished = Some 4
refusal_number refusal.OldHead = Some 5
refusal_number refusal.LeadsElsewhere = Some 6
refusal_number refusal.OtherRoot = Some 7
refusal_number refusal.OtherPromise = Some 8
refusal_number refusal.Expired = Some 9
refusal_number refusal.NoFreshList = Some 10
refusal_number refusal.Revoked = Some 11
refusal_number refusal.Full = Some 12
refusal_number (refusal.DoesNotConvict p) = Some 13
refusal_number refusal.UsedUp = Some 14
refusal_number refusal.NoMemory = None

-- a refusal with this number, and of those of evidence the first part's; or none has it
abbrev pub IsRefusalOf : ℕ → Option Refusal → Type 0
IsRefusalOf n r =
    MatchOption r ((f : Refusal) → refusal_number f ≡ Some n → ⊥) (λ f. (refusal_number f ≡ Some n) × ((p : Part) → f ≡ refusal.DoesNotConvict p → p ≡ part.OneLog))

-- a writer refuses for want of memory, or with 1 since what it was to write is not well-formed
abbrev pub Because : Type 0 → Refusal → Type 0
Because Wrong refusal.NoMemory = Unit {0}
Because Wrong refusal.Unreadable = Wrong
Because Wrong refusal.NotThere = ⊥
Because Wrong refusal.WrongSignature = ⊥
Because Wrong refusal.NotPublished = ⊥
Because Wrong refusal.OldHead = ⊥
Because Wrong refusal.LeadsElsewhere = ⊥
Because Wrong refusal.OtherRoot = ⊥
Because Wrong refusal.OtherPromise = ⊥
Because Wrong refusal.Expired = ⊥
Because Wrong refusal.NoFreshList = ⊥
Because Wrong refusal.Revoked = ⊥
Because Wrong refusal.Full = ⊥
Because Wrong (refusal.DoesNotConvict p) = ⊥
Because Wrong refusal.UsedUp = ⊥

-- the cause in words
abbrev pub cause_text : Refusal → List ℕ
cause_text refusal.Unreadable = codes "unknown kind or bad length"
cause_text refusal.NotThere = codes "an authority, log, place or number that isn't there"
cause_text refusal.WrongSignature = codes "a wrong signature"
cause_text refusal.NotPublished = codes "what was published isn't there, or isn't right"
cause_text refusal.OldHead = codes "a head of a lower tick, or with fewer entries"
cause_text refusal.LeadsElsewhere = codes "a path or consistency proof that leads elsewhere"
cause_text refusal.OtherRoot = codes "entries that don't give the root"
cause_text refusal.OtherPromise = codes "a promise for another certificate, two of one log, or of a later tick"
cause_text refusal.Expired = codes "the certificate has expired"
cause_text refusal.NoFreshList = codes "no fresh list of that authority"
cause_text refusal.Revoked = codes "revoked"
cause_text refusal.Full = codes "the row, a list or the file is full"
cause_text (refusal.DoesNotConvict p) = codes "it doesn't convict"
cause_text refusal.UsedUp = codes "drawn bytes are used up, or a serial or a tick at 2^63"
cause_text refusal.NoMemory = codes "there is no memory"
