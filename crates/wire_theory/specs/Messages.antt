-- The messages and their bytes. Assumes nothing.
use Rattle.std.specs.Prelude.{◌≡◌, ℕ, ◌+◌, ◌^◌, ◌<◌, ◌≤◌, List, [], ◌∷◌, ◌++◌, length, slice_index, slice_index_or}
use Rattle.std.specs.List.{flat_map}
use Rattle.model.specs.Objects.{Certificate}
use Rattle.wire_theory.specs.Bytes.{Bytes, big}

-- ---- what is signed, with the bytes of its signature as its seal; a certificate is the model's

-- a log's promise for the certificate with this leaf digest
pub record SignedSct : Type 0 where
  pub log : ℕ
  pub digest : Bytes
  pub at : ℕ
  pub seal : Bytes

pub record SignedHead : Type 0 where
  pub log : ℕ
  pub at : ℕ
  pub count : ℕ
  pub root : Bytes
  pub seal : Bytes

pub record SignedList : Type 0 where
  pub authority : ℕ
  pub at : ℕ
  pub serials : List ℕ
  pub seal : Bytes

-- ---- the others

-- what a monitor answers to a promise that is brought to it
pub data MonitorAnswer : Type 0 where
  -- the entry stands at this place below this head, by this path
  included : SignedHead → ℕ → List Bytes → MonitorAnswer
  not_due : MonitorAnswer
  -- the head, and the digests of its entries, convict the log
  convicts : SignedHead → List Bytes → MonitorAnswer
  no_head_so_late : MonitorAnswer

pub data Message : Type 0 where
  certificate : Certificate → Message
  sct : SignedSct → Message
  head : SignedHead → Message
  list : SignedList → Message
  -- a name and a key
  order : Bytes → Bytes → Message
  -- a serial and a nonce
  challenge : ℕ → Bytes → Message
  published : ℕ → Message
  submit : Certificate → Message
  get_head : Message
  -- a place and a count
  get_inclusion : ℕ → ℕ → Message
  -- from and to
  get_consistency : ℕ → ℕ → Message
  get_entries : ℕ → ℕ → Message
  -- a serial, and the signature by the certificate's key
  revoke : ℕ → Bytes → Message
  get_list : Message
  bring : Certificate → SignedSct → Message
  present : Certificate → SignedSct → SignedSct → Message
  inclusion : List Bytes → Message
  consistency : List Bytes → Message
  entries : List Certificate → Message
  answer : MonitorAnswer → Message
  accepted : Message
  -- the number of the cause
  refused : ℕ → Message

-- a log that breaks its promise: the promise, a head as late, and the digests of its entries
pub record Evidence : Type 0 where
  pub sct : SignedSct
  pub head : SignedHead
  pub digests : List Bytes

-- what is the same for all
pub record Settings : Type 0 where
  pub mmd : ℕ
  pub freshness : ℕ
  pub lifetime : ℕ

-- ---- the bytes

-- one after the other
abbrev pub row : List Bytes → Bytes
row = flat_map (λ d. d)

-- behind its length
abbrev pub counted : Bytes → Bytes
counted name = length name ∷ name

-- what is signed: all bytes before the signature
unfoldable pub signed_certificate : Certificate → Bytes
signed_certificate c = 1 ∷ (c.issuer ∷ (counted c.name ++ (c.key ++ (big 8 c.serial ++ big 8 c.expiry))))

unfoldable pub signed_sct : SignedSct → Bytes
signed_sct p = 2 ∷ (p.log ∷ (p.digest ++ big 8 p.at))

unfoldable pub signed_head : SignedHead → Bytes
signed_head h = 3 ∷ (h.log ∷ (big 8 h.at ++ (big 8 h.count ++ h.root)))

unfoldable pub signed_list : SignedList → Bytes
signed_list l = 4 ∷ (l.authority ∷ (big 8 l.at ++ (big 2 (length l.serials) ++ flat_map (big 8) l.serials)))

-- the authority's number stands before a revocation's bytes
unfoldable pub signed_revoke : ℕ → ℕ → Bytes
signed_revoke authority serial = authority ∷ (13 ∷ big 8 serial)

abbrev pub certificate_bytes : Certificate → Bytes
certificate_bytes c = signed_certificate c ++ c.seal

abbrev pub sct_bytes : SignedSct → Bytes
sct_bytes p = signed_sct p ++ p.seal

abbrev pub head_bytes : SignedHead → Bytes
head_bytes h = signed_head h ++ h.seal

abbrev pub list_bytes : SignedList → Bytes
list_bytes l = signed_list l ++ l.seal

unfoldable pub answer_bytes : MonitorAnswer → Bytes
answer_bytes (included h place path) = 1 ∷ (head_bytes h ++ (big 8 place ++ (length path ∷ row path)))
answer_bytes not_due = 2 ∷ []
answer_bytes (convicts h digests) = 3 ∷ (head_bytes h ++ row digests)
answer_bytes no_head_so_late = 4 ∷ []

unfoldable pub encode : Message → Bytes
encode (certificate c) = certificate_bytes c
encode (sct p) = sct_bytes p
encode (head h) = head_bytes h
encode (list l) = list_bytes l
encode (order name key) = 5 ∷ (counted name ++ key)
encode (challenge serial nonce) = 6 ∷ (big 8 serial ++ nonce)
encode (published serial) = 7 ∷ big 8 serial
encode (submit c) = 8 ∷ certificate_bytes c
encode get_head = 9 ∷ []
encode (get_inclusion place count) = 10 ∷ (big 8 place ++ big 8 count)
encode (get_consistency from to) = 11 ∷ (big 8 from ++ big 8 to)
encode (get_entries from to) = 12 ∷ (big 8 from ++ big 8 to)
encode (revoke serial seal) = 13 ∷ (big 8 serial ++ seal)
encode get_list = 14 ∷ []
encode (bring c p) = 15 ∷ (certificate_bytes c ++ sct_bytes p)
encode (present c p q) = 16 ∷ (certificate_bytes c ++ (sct_bytes p ++ sct_bytes q))
encode (inclusion path) = 26 ∷ (length path ∷ row path)
encode (consistency path) = 27 ∷ (length path ∷ row path)
encode (entries cs) = 28 ∷ flat_map certificate_bytes cs
encode (answer a) = 29 ∷ answer_bytes a
encode accepted = 30 ∷ []
encode (refused cause) = 31 ∷ (cause ∷ [])

unfoldable pub evidence_bytes : Evidence → Bytes
evidence_bytes e = sct_bytes e.sct ++ (head_bytes e.head ++ row e.digests)

unfoldable pub settings_bytes : Settings → Bytes
settings_bytes s = big 4 s.mmd ++ (big 4 s.freshness ++ big 4 s.lifetime)

-- ---- what is well-formed

pub record FitsCertificate (c : Certificate) : Type 0 where
  pub issuer : c.issuer < 256
  pub name : length c.name ≤ 64
  pub key : length c.key ≡ 32
  pub serial : c.serial < 2 ^ 64
  pub expiry : c.expiry < 2 ^ 64
  pub seal : length c.seal ≡ 64

pub record FitsSct (p : SignedSct) : Type 0 where
  pub log : p.log < 256
  pub digest : length p.digest ≡ 32
  pub at : p.at < 2 ^ 64
  pub seal : length p.seal ≡ 64

pub record FitsHead (h : SignedHead) : Type 0 where
  pub log : h.log < 256
  pub at : h.at < 2 ^ 64
  pub count : h.count ≤ 65536
  pub root : length h.root ≡ 32
  pub seal : length h.seal ≡ 64

-- each is above the one before it
abbrev pub Rising : List ℕ → Type 0
Rising xs = (k : ℕ) → k + 1 < length xs → slice_index xs k < slice_index xs (k + 1)

pub record FitsList (l : SignedList) : Type 0 where
  pub authority : l.authority < 256
  pub at : l.at < 2 ^ 64
  pub few : length l.serials ≤ 1024
  pub serials : (k : ℕ) → k < length l.serials → slice_index l.serials k < 2 ^ 64
  pub rising : Rising l.serials
  pub seal : length l.seal ≡ 64

-- digests of 32 bytes
abbrev pub FitDigests : List Bytes → Type 0
FitDigests ds = (k : ℕ) → k < length ds → length (slice_index_or ds k []) ≡ 32

-- a path, whose count is one byte
abbrev pub FitsPath : List Bytes → Type 0
FitsPath ds = (length ds ≤ 255) × FitDigests ds

abbrev pub FitCertificates : List Certificate → Type 0
FitCertificates [] = Unit {0}
FitCertificates (c ∷ cs) = FitsCertificate c × FitCertificates cs

abbrev pub FitsAnswer : MonitorAnswer → Type 0
FitsAnswer (included h place path) = FitsHead h × (place < 2 ^ 64) × FitsPath path
FitsAnswer not_due = Unit {0}
FitsAnswer (convicts h digests) = FitsHead h × (length digests ≡ h.count) × FitDigests digests
FitsAnswer no_head_so_late = Unit {0}

abbrev pub Fits : Message → Type 0
Fits (certificate c) = FitsCertificate c
Fits (sct p) = FitsSct p
Fits (head h) = FitsHead h
Fits (list l) = FitsList l
Fits (order name key) = (length name ≤ 64) × (length key ≡ 32)
Fits (challenge serial nonce) = (serial < 2 ^ 64) × (length nonce ≡ 16)
Fits (published serial) = serial < 2 ^ 64
Fits (submit c) = FitsCertificate c
Fits get_head = Unit {0}
Fits (get_inclusion place count) = (place < 2 ^ 64) × (count < 2 ^ 64)
Fits (get_consistency from to) = (from < 2 ^ 64) × (to < 2 ^ 64)
Fits (get_entries from to) = (from < 2 ^ 64) × (to < 2 ^ 64) × (to ≤ from + 64)
Fits (revoke serial seal) = (serial < 2 ^ 64) × (length seal ≡ 64)
Fits get_list = Unit {0}
Fits (bring c p) = FitsCertificate c × FitsSct p
Fits (present c p q) = FitsCertificate c × FitsSct p × FitsSct q
Fits (inclusion path) = FitsPath path
Fits (consistency path) = FitsPath path
Fits (entries cs) = FitCertificates cs
Fits (answer a) = FitsAnswer a
Fits accepted = Unit {0}
Fits (refused cause) = (1 ≤ cause) × (cause ≤ 14)

pub record FitsEvidence (e : Evidence) : Type 0 where
  pub sct : FitsSct e.sct
  pub head : FitsHead e.head
  pub count : length e.digests ≡ e.head.count
  pub digests : FitDigests e.digests

pub record FitsSettings (s : Settings) : Type 0 where
  pub mmd : (1 ≤ s.mmd) × (s.mmd ≤ 86400)
  pub freshness : (2 ≤ s.freshness) × (s.freshness ≤ 86400)
  pub lifetime : (1 ≤ s.lifetime) × (s.lifetime ≤ 31536000)

-- the bytes are those of a, which is well-formed
pub record Encodes {A : Type 0} (bytes_of : A → Bytes) (FitsA : A → Type 0) (s : Bytes) (a : A) : Type 0 where
  pub bytes : s ≡ bytes_of a
  pub fits : FitsA a

-- they are those of no such a
abbrev pub Encodes-none : {A : Type 0} → (A → Bytes) → (A → Type 0) → Bytes → Type 0
Encodes-none bytes_of FitsA s = (a : _) → Encodes bytes_of FitsA s a → ⊥
