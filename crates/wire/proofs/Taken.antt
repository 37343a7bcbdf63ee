-- What was taken field by field is what the bytes were. Assumes nothing.
use Rattle.std.proofs.Common.{◌≡◌, ℕ, ◌+◌, ◌*◌, ◌/◌, ◌^◌, ◌<◌, ◌≤◌, List, [], ◌∷◌, ◌++◌, None, Some, Option, length, sym, ap, ◌∙◌, append_assoc, append-nil, length-append, arith}
use Rattle.model.specs.Objects.{Certificate}
use Rattle.std.specs.List.{flat_map}
use Rattle.std.proofs.lemmas.List.{nil_from_length}
use Rattle.wire_theory.specs.Bytes.{Bytes, big, number, numbers, part}
use Rattle.wire_theory.specs.Messages.{SignedSct, SignedHead, SignedList, Message, Settings, counted, row}
use Rattle.wire_theory.specs.Messages.{certificate, sct, head, list, order, challenge, published, submit, get_inclusion, get_consistency, get_entries, revoke, bring, present, inclusion, consistency, entries, answer, refused, included, convicts}
use Rattle.wire_theory.specs.Messages.{signed_certificate, signed_sct, signed_head, signed_list, certificate_bytes, sct_bytes, head_bytes, answer_bytes, evidence_bytes, settings_bytes, encode}
use Rattle.wire_theory.specs.Messages.{Encodes, Fits, FitsCertificate, FitsSct, FitsHead, FitsPath, FitCertificates, FitDigests, FitsEvidence, FitsSettings}
use Rattle.wire_theory.proofs.Numbers.{length-big, number_big}
use Rattle.wire_theory.proofs.Shaped.{middle}
use Rattle.wire_theory.proofs.Rows.{digests_fit, length-numbers, length-row, number_at, numbers_joined, row_is}
use Rattle.wire.specs.declared.parts.Digests.{Digests}
use Rattle.wire.specs.Reading.{RisingNumbers}
use Rattle.wire.specs.Sound.{Whole}
use Rattle.wire.specs.Taking.{Takes, TakesPath}
use Rattle.wire.specs.Views.{digests_of}

pub path_taken : (old mid new : Bytes) (n : ℕ) (r : Option Digests) → n < 256 → old ≡ n ∷ mid → Takes (32 * n) (λ d. d.bytes.now) mid new r → TakesPath old new r
path_taken old mid new n None byte e h = rw e (λ whole. omega (arith, h, whole))
path_taken old mid new n (Some d) byte e h =
    let p = d.bytes.now in
    let rest = h.0 in
    let counts = length-row 32 n p (omega arith) h.1 in
    let joins = row_is 32 n p (omega arith) h.1 in
    (cc, (omega (arith, counts), digests_fit n p h.1), omega (arith, h.1))

pub certificate_taken : (c : Certificate) (s a b d e f new : Bytes) → s ≡ c.issuer ∷ a → a ≡ counted c.name ++ b → b ≡ c.key ++ d → d ≡ big 8 c.serial ++ e → e ≡ big 8 c.expiry ++ f → f ≡ c.seal ++ new →
    1 ∷ s ≡ certificate_bytes c ++ new
unfolding signed_certificate
certificate_taken c s a b d e f new issuer name key serial expiry seal = simp append_assoc cc

-- the same, where all behind the name was taken at once
pub certificate_within : (c : Certificate) (s a b own tail d e f rest new : Bytes) → s ≡ c.issuer ∷ a → a ≡ counted c.name ++ b → (b ≡ own ++ new) × (length own ≡ 112) →
    tail ≡ own → (tail ≡ c.key ++ d) × (length c.key ≡ 32) → d ≡ big 8 c.serial ++ e → e ≡ big 8 c.expiry ++ f → (f ≡ c.seal ++ rest) × (length c.seal ≡ 64) → 1 ∷ s ≡ certificate_bytes c ++ new
certificate_within c s a b own tail d e f rest new issuer name whole same key serial expiry seal =
    let joined : (t x y : Bytes) → t ≡ x ++ y → t ++ new ≡ x ++ (y ++ new) = λ t x y h. ap (λ u. u ++ new) h ∙ append_assoc x y new in
    let long : (t x y : Bytes) → t ≡ x ++ y → length t ≡ length x + length y = λ t x y h. ap length h ∙ length-append x y in
    let all : rest ≡ [] =
    nil_from_length rest
    (omega (arith, whole.1, ap length same, long tail c.key d key.0, key.1, long d (big 8 c.serial) e serial, length-big 8 c.serial, long e (big 8 c.expiry) f expiry, length-big 8 c.expiry, long f c.seal rest seal.0, seal.1)) in
    certificate_taken c s a b (d ++ new) (e ++ new) (f ++ new) new issuer name (whole.0 ∙ ap (λ t. t ++ new) (sym same) ∙ joined tail c.key d key.0) (joined d (big 8 c.serial) e serial) (joined e (big 8 c.expiry) f expiry)
    (joined f c.seal rest seal.0 ∙ ap (λ r. c.seal ++ (r ++ new)) all)

pub sct_taken : (p : SignedSct) (s a b d new : Bytes) → s ≡ p.log ∷ a → a ≡ p.digest ++ b → b ≡ big 8 p.at ++ d → d ≡ p.seal ++ new → 2 ∷ s ≡ sct_bytes p ++ new
unfolding signed_sct
sct_taken p s a b d new log digest at seal = simp append_assoc cc

pub head_taken : (h : SignedHead) (s a b d e new : Bytes) → s ≡ h.log ∷ a → a ≡ big 8 h.at ++ b → b ≡ big 8 h.count ++ d → d ≡ h.root ++ e → e ≡ h.seal ++ new → 3 ∷ s ≡ head_bytes h ++ new
unfolding signed_head
head_taken h s a b d e new log at count root seal = simp append_assoc cc

pub count_taken : (s a b d : Bytes) (log at count : ℕ) → s ≡ log ∷ a → a ≡ big 8 at ++ b → b ≡ big 8 count ++ d → count < 2 ^ 64 → number (part 10 8 (3 ∷ s)) ≡ count
count_taken s a b d log at count e f g small =
    let flat : 3 ∷ s ≡ (3 ∷ (log ∷ big 8 at)) ++ (big 8 count ++ d) = cc in
    ap (λ x. number (part 10 8 x)) flat ∙ ap number (middle (3 ∷ (log ∷ big 8 at)) (big 8 count) d 10 8 (omega (arith, length-big 8 at)) (length-big 8 count)) ∙ number_big 8 count (omega (arith, small))

-- ---- messages

abbrev IsMessage : Bytes → Message → Type 0
IsMessage = Encodes encode Fits

all_of : (a t : Bytes) → t ≡ [] → a ++ t ≡ a
all_of a t e = ap (λ s. a ++ s) e ∙ append-nil a

pub order_read : (b r t name key : Bytes) → (b ≡ counted name ++ r) × (length name ≤ 64) → (r ≡ key ++ t) × (length key ≡ 32) → t ≡ [] → IsMessage (5 ∷ b) (order name key)
unfolding encode
order_read b r t name key h k end = let a = h.0 in let d = k.0 in let e = all_of key t end in record { bytes = cc; fits = (h.1, k.1) }

pub challenge_read : (b r t nonce : Bytes) (serial : ℕ) → b ≡ big 8 serial ++ r → serial < 2 ^ 64 → (r ≡ nonce ++ t) × (length nonce ≡ 16) → t ≡ [] → IsMessage (6 ∷ b) (challenge serial nonce)
unfolding encode
challenge_read b r t nonce serial h small k end = let d = k.0 in let e = all_of nonce t end in record { bytes = cc; fits = (small, k.1) }

pub published_read : (b t : Bytes) (serial : ℕ) → b ≡ big 8 serial ++ t → serial < 2 ^ 64 → t ≡ [] → IsMessage (7 ∷ b) (published serial)
unfolding encode
published_read b t serial h small end = let e = all_of (big 8 serial) t end in record { bytes = cc; fits = small }

pub revoke_read : (b r t seal : Bytes) (serial : ℕ) → b ≡ big 8 serial ++ r → serial < 2 ^ 64 → (r ≡ seal ++ t) × (length seal ≡ 64) → t ≡ [] → IsMessage (13 ∷ b) (revoke serial seal)
unfolding encode
revoke_read b r t seal serial h small k end = let d = k.0 in let e = all_of seal t end in record { bytes = cc; fits = (small, k.1) }

pub submit_read : (b t : Bytes) (c : Certificate) → (b ≡ certificate_bytes c ++ t) × FitsCertificate c → t ≡ [] → IsMessage (8 ∷ b) (submit c)
unfolding encode
submit_read b t c h end = record { bytes = ap (λ s. 8 ∷ s) (h.0 ∙ all_of (certificate_bytes c) t end); fits = h.1 }

pub bring_read : (b r t : Bytes) (c : Certificate) (p : SignedSct) → (b ≡ certificate_bytes c ++ r) × FitsCertificate c → (r ≡ sct_bytes p ++ t) × FitsSct p → t ≡ [] → IsMessage (15 ∷ b) (bring c p)
unfolding encode
bring_read b r t c p h k end =
    record { bytes = ap (λ s. 15 ∷ s) (h.0 ∙ ap (λ s. certificate_bytes c ++ s) (k.0 ∙ all_of (sct_bytes p) t end)); fits = (h.1, k.1) }

pub present_read : (b r s t : Bytes) (c : Certificate) (p q : SignedSct) → (b ≡ certificate_bytes c ++ r) × FitsCertificate c → (r ≡ sct_bytes p ++ s) × FitsSct p → (s ≡ sct_bytes q ++ t) × FitsSct q → t ≡ [] →
    IsMessage (16 ∷ b) (present c p q)
unfolding encode
present_read b r s t c p q h k l end =
    record { bytes = ap (λ s. 16 ∷ s) (h.0 ∙ ap (λ s. certificate_bytes c ++ s) (k.0 ∙ ap (λ s. sct_bytes p ++ s) (l.0 ∙ all_of (sct_bytes q) t end))); fits = (h.1, k.1, l.1) }

-- digests to the end
pub row_taken : (s t : Bytes) (d : Digests) (n : ℕ) → (s ≡ d.bytes.now ++ t) × (length d.bytes.now ≡ 32 * n) → t ≡ [] →
    (s ≡ row (digests_of d)) × (length (digests_of d) ≡ n) × FitDigests (digests_of d) × Whole 32 d.bytes.now
row_taken s t d n h end =
    let p = d.bytes.now in
    (h.0 ∙ all_of p t end ∙ sym (row_is 32 n p (omega arith) h.1), length-row 32 n p (omega arith) h.1, digests_fit n p h.1, omega (arith, h.1))

pub included_read : (b r s t : Bytes) (h : SignedHead) (place : ℕ) (path : List Bytes) → (b ≡ head_bytes h ++ r) × FitsHead h → r ≡ big 8 place ++ s → place < 2 ^ 64 →
    s ≡ (length path ∷ row path) ++ t → FitsPath path → t ≡ [] → IsMessage (29 ∷ (1 ∷ b)) (answer (included h place path))
unfolding encode answer_bytes
included_read b r s t h place path k l small m fit end =
    let x = k.0 in
    let e = all_of (length path ∷ row path) t end in
    record { bytes = cc; fits = (k.1, small, fit) }

pub convicts_read : (b s : Bytes) (h : SignedHead) (ds : List Bytes) → (b ≡ head_bytes h ++ s) × FitsHead h → s ≡ row ds → length ds ≡ h.count → FitDigests ds → IsMessage (29 ∷ (3 ∷ b)) (answer (convicts h ds))
unfolding encode answer_bytes
convicts_read b s h ds k e count fit = let x = k.0 in record { bytes = cc; fits = (k.1, count, fit) }

pub evidence_read : (s r t : Bytes) (p : SignedSct) (h : SignedHead) (ds : List Bytes) → (s ≡ sct_bytes p ++ r) × FitsSct p → (r ≡ head_bytes h ++ t) × FitsHead h → t ≡ row ds → length ds ≡ h.count → FitDigests ds →
    Encodes evidence_bytes FitsEvidence s (record { sct = p; head = h; digests = ds })
unfolding evidence_bytes
evidence_read s r t p h ds e k l count fit =
    let x = e.0 in
    let y = k.0 in
    record { bytes = cc; fits = record { sct = e.1; head = k.1; count = count; digests = fit } }

pub list_read : (l : SignedList) (p b r s t u v : Bytes) (n : ℕ) → b ≡ l.authority ∷ r → l.authority < 256 → r ≡ big 8 l.at ++ s → l.at < 2 ^ 64 → s ≡ big 2 n ++ t → n ≤ 1024 → (t ≡ p ++ u) × (length p ≡ 8 * n) →
    l.serials ≡ numbers 8 p → RisingNumbers p (length p / 8) → (u ≡ l.seal ++ v) × (length l.seal ≡ 64) → v ≡ [] → IsMessage (4 ∷ b) (list l)
unfolding encode signed_list
list_read l p b r s t u v n authority byte at tick count few rows same rises seal end =
    let whole : length p / 8 ≡ n = omega (arith, rows.1) in
    let counts : length l.serials ≡ n = ap length same ∙ length-numbers n p rows.1 in
    let joins : flat_map (big 8) l.serials ≡ p = ap (flat_map (big 8)) same ∙ numbers_joined n p rows.1 (λ k h. rises.each k (omega arith)) in
    let a = rows.0 in
    let d = seal.0 in
    let e = all_of l.seal v end in
    let f = ap (big 2) counts in
    record {
      bytes = simp append_assoc cc;
      fits = record {
        authority = byte;
        at = tick;
        few = omega arith;
        serials = λ k h. let below : k < n = omega arith in rw (same, number_at n p rows.1 k below) (rises.small k (omega arith));
        rising = rw same rises.rising;
        seal = seal.1;
      };
    }

pub certificate_read : (s t : Bytes) (c : Certificate) → (s ≡ certificate_bytes c ++ t) × FitsCertificate c → t ≡ [] → IsMessage s (certificate c)
unfolding encode
certificate_read s t c h end = record { bytes = h.0 ∙ all_of (certificate_bytes c) t end; fits = h.1 }

pub sct_read : (s t : Bytes) (p : SignedSct) → (s ≡ sct_bytes p ++ t) × FitsSct p → t ≡ [] → IsMessage s (sct p)
unfolding encode
sct_read s t p h end = record { bytes = h.0 ∙ all_of (sct_bytes p) t end; fits = h.1 }

pub head_read : (s t : Bytes) (h : SignedHead) → (s ≡ head_bytes h ++ t) × FitsHead h → t ≡ [] → IsMessage s (head h)
unfolding encode
head_read s t h k end = record { bytes = k.0 ∙ all_of (head_bytes h) t end; fits = k.1 }

pub inclusion_read : (b : Bytes) (ds : List Bytes) → b ≡ length ds ∷ row ds → FitsPath ds → IsMessage (26 ∷ b) (inclusion ds)
unfolding encode
inclusion_read b ds e fit = record { bytes = ap (λ s. 26 ∷ s) e; fits = fit }

pub consistency_read : (b : Bytes) (ds : List Bytes) → b ≡ length ds ∷ row ds → FitsPath ds → IsMessage (27 ∷ b) (consistency ds)
unfolding encode
consistency_read b ds e fit = record { bytes = ap (λ s. 27 ∷ s) e; fits = fit }

pub get_inclusion_read : (b : Bytes) (m n : ℕ) → b ≡ big 8 m ++ big 8 n → m < 2 ^ 64 → n < 2 ^ 64 → IsMessage (10 ∷ b) (get_inclusion m n)
unfolding encode
get_inclusion_read b m n e small tiny = record { bytes = ap (λ s. 10 ∷ s) e; fits = (small, tiny) }

pub get_consistency_read : (b : Bytes) (m n : ℕ) → b ≡ big 8 m ++ big 8 n → m < 2 ^ 64 → n < 2 ^ 64 → IsMessage (11 ∷ b) (get_consistency m n)
unfolding encode
get_consistency_read b m n e small tiny = record { bytes = ap (λ s. 11 ∷ s) e; fits = (small, tiny) }

pub get_entries_read : (b : Bytes) (m n : ℕ) → b ≡ big 8 m ++ big 8 n → m < 2 ^ 64 → n < 2 ^ 64 → n ≤ m + 64 → IsMessage (12 ∷ b) (get_entries m n)
unfolding encode
get_entries_read b m n e small tiny few = record { bytes = ap (λ s. 12 ∷ s) e; fits = (small, tiny, few) }

pub refused_read : (b t : Bytes) (n : ℕ) → b ≡ n ∷ t → t ≡ [] → 1 ≤ n → n ≤ 14 → IsMessage (31 ∷ b) (refused n)
unfolding encode
refused_read b t n e end low high = record { bytes = ap (λ s. 31 ∷ s) (e ∙ ap (λ s. n ∷ s) end); fits = (low, high) }

pub settings_read : (s r t u : Bytes) (x : Settings) → s ≡ big 4 x.mmd ++ r → r ≡ big 4 x.freshness ++ t → t ≡ big 4 x.lifetime ++ u → u ≡ [] → FitsSettings x → Encodes settings_bytes FitsSettings s x
unfolding settings_bytes
settings_read s r t u x e f g end fits = let h = all_of (big 4 x.lifetime) u end in record { bytes = cc; fits = fits }

pub entries_message : (b : Bytes) (cs : List Certificate) → Encodes (flat_map certificate_bytes) FitCertificates b cs → IsMessage (28 ∷ b) (entries cs)
unfolding encode
entries_message b cs all = record { bytes = ap (λ s. 28 ∷ s) all.bytes; fits = all.fits }
