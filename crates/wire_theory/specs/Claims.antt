-- What is proved of messages and their bytes. Assumes nothing.
use Rattle.std.specs.Prelude.{◌≡◌, ℕ, ◌^◌, ◌<◌, ◌∷◌, replicate}
use Rattle.model.specs.Objects.{Certificate}
use Rattle.wire_theory.specs.Bytes.{Bytes}
use Rattle.wire_theory.specs.Decode.{decode}
use Rattle.wire_theory.specs.Messages.{SignedSct, SignedHead, SignedList, Message, Evidence, Settings}
use Rattle.wire_theory.specs.Messages.{encode, evidence_bytes, settings_bytes, certificate_bytes, signed_certificate, signed_sct, signed_head, signed_list, signed_revoke}
use Rattle.wire_theory.specs.Messages.{Fits, FitsCertificate, FitsSct, FitsHead, FitsList, FitsEvidence, FitsSettings, Encodes}
use Rattle.wire_theory.specs.Shapes.{Shaped}

-- what is written is read as what it was
abbrev pub DecodesBack : Type 0
DecodesBack = (m : Message) → Fits m → decode (encode m) ≡ m

-- no two messages have the same bytes
abbrev pub Canonical : Type 0
Canonical = (s : Bytes) (m n : Message) → Encodes encode Fits s m → Encodes encode Fits s n → m ≡ n

abbrev pub EvidenceCanonical : Type 0
EvidenceCanonical = (s : Bytes) (e f : Evidence) → Encodes evidence_bytes FitsEvidence s e → Encodes evidence_bytes FitsEvidence s f → e ≡ f

abbrev pub SettingsCanonical : Type 0
SettingsCanonical = (s : Bytes) (t u : Settings) → Encodes settings_bytes FitsSettings s t → Encodes settings_bytes FitsSettings s u → t ≡ u

-- the bytes of every message have the shape of its kind
abbrev pub EachShaped : Type 0
EachShaped = (m : Message) → Fits m → Shaped (encode m)

-- ---- what is signed

-- the text whose digest is a certificate's leaf digest
abbrev pub leaf_text : Certificate → Bytes
leaf_text c = 0 ∷ certificate_bytes c

-- two certificates that are not the same have not the same text
abbrev pub LeafTextsApart : Type 0
LeafTextsApart = (c d : Certificate) → FitsCertificate c → FitsCertificate d → leaf_text c ≡ leaf_text d → c ≡ d

-- whatever is signed; what a revocation is of, and by whom: an authority's number and a serial
pub data Signing : Type 0 where
  certified : Certificate → Signing
  promised : SignedSct → Signing
  headed : SignedHead → Signing
  listed : SignedList → Signing
  revoked : ℕ → ℕ → Signing

abbrev pub signed_text : Signing → Bytes
signed_text (certified c) = signed_certificate c
signed_text (promised p) = signed_sct p
signed_text (headed h) = signed_head h
signed_text (listed l) = signed_list l
signed_text (revoked authority serial) = signed_revoke authority serial

abbrev pub FitsSigning : Signing → Type 0
FitsSigning (certified c) = FitsCertificate c
FitsSigning (promised p) = FitsSct p
FitsSigning (headed h) = FitsHead h
FitsSigning (listed l) = FitsList l
FitsSigning (revoked authority serial) = serial < 2 ^ 64

-- without its signature
abbrev none : Bytes
none = replicate 64 0

abbrev pub bare : Signing → Signing
bare (certified c) = certified (record { issuer = c.issuer; name = c.name; key = c.key; serial = c.serial; expiry = c.expiry; seal = none })
bare (promised p) = promised (record { log = p.log; digest = p.digest; at = p.at; seal = none })
bare (headed h) = headed (record { log = h.log; at = h.at; count = h.count; root = h.root; seal = none })
bare (listed l) = listed (record { authority = l.authority; at = l.at; serials = l.serials; seal = none })
bare (revoked authority serial) = revoked authority serial

-- two that are of different kinds, or differ in anything but the signature, never have the same signed bytes: one key is safe for all kinds
abbrev pub SignedApart : Type 0
SignedApart = (x y : Signing) → FitsSigning x → FitsSigning y → signed_text x ≡ signed_text y → bare x ≡ bare y
