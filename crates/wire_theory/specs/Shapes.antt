-- Which bytes are a message's, told by looking at places: the kind, the lengths and what is limited. Assumes nothing.
use Rattle.std.specs.Prelude.{◌≡◌, ℕ, ◌+◌, ◌-◌, ◌*◌, ◌≤◌, cond, List, length, ◌==◌, slice_index}
use Rattle.std.specs.List.{flat_map}
use Rattle.model.specs.Objects.{Certificate}
use Rattle.wire_theory.specs.Bytes.{Bytes, number, numbers, part}
use Rattle.wire_theory.specs.Messages.{Rising, FitCertificates, Encodes, certificate_bytes}

abbrev pub CertificateShape : Bytes → Type 0
CertificateShape s = (slice_index s 0 ≡ 1) × (slice_index s 2 ≤ 64) × (length s ≡ 115 + slice_index s 2)

abbrev pub SctShape : Bytes → Type 0
SctShape s = (slice_index s 0 ≡ 2) × (length s ≡ 106)

abbrev pub HeadShape : Bytes → Type 0
HeadShape s = (slice_index s 0 ≡ 3) × (length s ≡ 114) × (number (part 10 8 s) ≤ 65536)

abbrev pub serial_count : Bytes → ℕ
serial_count s = number (part 10 2 s)

abbrev pub ListShape : Bytes → Type 0
ListShape s = (slice_index s 0 ≡ 4) × (serial_count s ≤ 1024) × (length s ≡ 76 + 8 * serial_count s) × Rising (numbers 8 (part 12 (8 * serial_count s) s))

abbrev pub OrderShape : Bytes → Type 0
OrderShape s = (slice_index s 1 ≤ 64) × (length s ≡ 34 + slice_index s 1)

abbrev pub BringShape : Bytes → Type 0
BringShape s = (107 ≤ length s) × CertificateShape (part 1 (length s - 107) s) × SctShape (part (length s - 106) 106 s)

abbrev pub PresentShape : Bytes → Type 0
PresentShape s =
    (213 ≤ length s) × CertificateShape (part 1 (length s - 213) s) × SctShape (part (length s - 212) 106 s) × SctShape (part (length s - 106) 106 s)

abbrev pub EntriesShape : Bytes → Type 0
EntriesShape s = (cs : List Certificate) × Encodes (flat_map certificate_bytes) FitCertificates s cs

-- by what the monitor answers
abbrev pub AnswerShape : ℕ → Bytes → Type 0
AnswerShape what s =
    cond (what == 1) ((125 ≤ length s) × HeadShape (part 2 114 s) × (length s ≡ 125 + 32 * slice_index s 124))
    (cond (what == 2) (length s ≡ 2)
    (cond (what == 3) ((116 ≤ length s) × HeadShape (part 2 114 s) × (length s ≡ 116 + 32 * number (part 10 8 (part 2 114 s))))
    (cond (what == 4) (length s ≡ 2) ⊥)))

-- by the message's kind
abbrev pub Shape : ℕ → Bytes → Type 0
Shape kind s =
    cond (kind == 1) (CertificateShape s)
    (cond (kind == 2) (SctShape s)
    (cond (kind == 3) (HeadShape s)
    (cond (kind == 4) (ListShape s)
    (cond (kind == 5) (OrderShape s)
    (cond (kind == 6) (length s ≡ 25)
    (cond (kind == 7) (length s ≡ 9)
    (cond (kind == 8) (CertificateShape (part 1 (length s - 1) s))
    (cond (kind == 9) (length s ≡ 1)
    (cond (kind == 10) (length s ≡ 17)
    (cond (kind == 11) (length s ≡ 17)
    (cond (kind == 12) ((length s ≡ 17) × (number (part 9 8 s) ≤ number (part 1 8 s) + 64))
    (cond (kind == 13) (length s ≡ 73)
    (cond (kind == 14) (length s ≡ 1)
    (cond (kind == 15) (BringShape s)
    (cond (kind == 16) (PresentShape s)
    (cond (kind == 26) (length s ≡ 2 + 32 * slice_index s 1)
    (cond (kind == 27) (length s ≡ 2 + 32 * slice_index s 1)
    (cond (kind == 28) (EntriesShape (part 1 (length s - 1) s))
    (cond (kind == 29) (AnswerShape (slice_index s 1) s)
    (cond (kind == 30) (length s ≡ 1)
    (cond (kind == 31) ((length s ≡ 2) × (1 ≤ slice_index s 1) × (slice_index s 1 ≤ 14)) ⊥)))))))))))))))))))))

-- the bytes of a message are of the shape of its kind
abbrev pub Shaped : Bytes → Type 0
Shaped s = Shape (slice_index s 0) s

abbrev pub EvidenceShape : Bytes → Type 0
EvidenceShape s = (220 ≤ length s) × SctShape (part 0 106 s) × HeadShape (part 106 114 s) × (length s ≡ 220 + 32 * number (part 10 8 (part 106 114 s)))

abbrev pub SettingsShape : Bytes → Type 0
SettingsShape s =
    (length s ≡ 12) × ((1 ≤ number (part 0 4 s)) × (number (part 0 4 s) ≤ 86400)) × ((2 ≤ number (part 4 4 s)) × (number (part 4 4 s) ≤ 86400))
    × ((1 ≤ number (part 8 4 s)) × (number (part 8 4 s) ≤ 31536000))
