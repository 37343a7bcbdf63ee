-- What is written is read as what it was. Assumes nothing.
use Rattle.std.proofs.Common.{◌≡◌, ℕ, ◌+◌, ◌-◌, ◌*◌, ◌^◌, ◌<◌, List, [], ◌∷◌, ◌++◌, length, get_or, drop, sym, refl, ap, ◌∙◌, append_assoc, append-nil, arith}
use Rattle.std.specs.List.{flat_map}
use Rattle.std.proofs.lemmas.List.{length-append, take_at, take_all}
use Rattle.model.specs.Objects.{Certificate}
use Rattle.wire_theory.specs.Bytes.{Bytes, big, number, numbers, part, row_of}
use Rattle.wire_theory.specs.Claims.{DecodesBack, Canonical, EvidenceCanonical, SettingsCanonical, LeafTextsApart}
use Rattle.wire_theory.specs.Decode.{sct_in, head_in, list_in, evidence_in, settings_in, behind, decode, decode_kind, decode_answer}
use Rattle.wire_theory.specs.Entries.{certificate_in, certificates_in}
use Rattle.wire_theory.specs.Messages.{SignedSct, SignedHead, SignedList, Evidence, Settings}
use Rattle.wire_theory.specs.Messages.{certificate, sct, head, list, order, challenge, published, submit, get_head, get_inclusion, get_consistency, get_entries, revoke, get_list, bring, present}
use Rattle.wire_theory.specs.Messages.{inclusion, consistency, entries, answer, accepted, refused, included, not_due, convicts, no_head_so_late}
use Rattle.wire_theory.specs.Messages.{signed_certificate, signed_sct, signed_head, signed_list, certificate_bytes, sct_bytes, head_bytes, list_bytes, answer_bytes, evidence_bytes, settings_bytes, encode, row, counted}
use Rattle.wire_theory.specs.Messages.{FitsCertificate, FitsSct, FitsHead, FitsList, FitsEvidence, FitsSettings, FitCertificates, FitDigests}
use Rattle.wire_theory.proofs.Numbers.{length-big, number_big}
use Rattle.wire_theory.proofs.Shaped.{sct_long, head_long, list_count, list_serials, joined_numbers_long, middle, ending, behind_kind, numbers_read, digests_read}
use Rattle.wire_theory.proofs.Follows.{first_read, certificates_read}

-- a number at a place
number_there : (s : Bytes) (i n : ℕ) → part i 8 s ≡ big 8 n → n < 2 ^ 64 → number (part i 8 s) ≡ n
number_there s i n e l = ap number e ∙ number_big 8 n l

pub sct_read : (p : SignedSct) → FitsSct p → sct_in (sct_bytes p) ≡ p
unfolding signed_sct
sct_read p f =
    let t : Bytes = big 8 p.at ++ p.seal in
    let flat : (p.digest ++ big 8 p.at) ++ p.seal ≡ p.digest ++ t = append_assoc p.digest (big 8 p.at) p.seal in
    let s : Bytes = 2 ∷ (p.log ∷ (p.digest ++ t)) in
    let digest : part 2 32 s ≡ p.digest = take_at p.digest t 32 f.digest in
    let at : number (part 34 8 s) ≡ p.at = number_there s 34 p.at (middle p.digest (big 8 p.at) p.seal 32 8 f.digest (length-big 8 p.at)) f.at in
    let long : length (p.digest ++ big 8 p.at) ≡ 40 = omega (arith, length-append p.digest (big 8 p.at), f.digest, length-big 8 p.at) in
    let seal : part 42 64 s ≡ p.seal = ap (part 40 64) (sym flat) ∙ ending (p.digest ++ big 8 p.at) p.seal 40 64 long f.seal in
    ap (λ x. sct_in (2 ∷ (p.log ∷ x))) flat ∙ (λ i. record { log = p.log; digest = digest i; at = at i; seal = seal i })

pub head_read : (h : SignedHead) → FitsHead h → head_in (head_bytes h) ≡ h
unfolding signed_head
head_read h f =
    let a = big 8 h.at in
    let b = big 8 h.count in
    let s : Bytes = 3 ∷ (h.log ∷ (a ++ (b ++ (h.root ++ h.seal)))) in
    let flat : head_bytes h ≡ s = ap (λ x. 3 ∷ (h.log ∷ x)) (simp append_assoc) in
    let at : number (part 2 8 s) ≡ h.at = number_there s 2 h.at (take_at a (b ++ (h.root ++ h.seal)) 8 (length-big 8 h.at)) f.at in
    let count : number (part 10 8 s) ≡ h.count =
    number_there s 10 h.count (middle a b (h.root ++ h.seal) 8 8 (length-big 8 h.at) (length-big 8 h.count)) (omega (arith, f.count)) in
    let long : length (a ++ b) ≡ 16 = omega (arith, length-append a b, length-big 8 h.at, length-big 8 h.count) in
    let front : a ++ (b ++ (h.root ++ h.seal)) ≡ (a ++ b) ++ (h.root ++ h.seal) = sym (append_assoc a b (h.root ++ h.seal)) in
    let root : part 18 32 s ≡ h.root = ap (part 16 32) front ∙ middle (a ++ b) h.root h.seal 16 32 long f.root in
    let long-2 : length ((a ++ b) ++ h.root) ≡ 48 = omega (arith, length-append (a ++ b) h.root, long, f.root) in
    let seal : part 50 64 s ≡ h.seal = ap (part 48 64) (front ∙ sym (append_assoc (a ++ b) h.root h.seal)) ∙ ending ((a ++ b) ++ h.root) h.seal 48 64 long-2 f.seal in
    ap head_in flat ∙ (λ i. record { log = h.log; at = at i; count = count i; root = root i; seal = seal i })

list_at : (l : SignedList) → FitsList l → number (part 2 8 (list_bytes l)) ≡ l.at
unfolding signed_list big
list_at l f = number_big 8 l.at f.at

list_authority : (l : SignedList) → get_or (list_bytes l) 1 0 ≡ l.authority
unfolding signed_list
list_authority l = refl

signed_list_long : (l : SignedList) → length (signed_list l) ≡ 12 + 8 * length l.serials
unfolding signed_list
signed_list_long l = simp (length-append, length-big, joined_numbers_long) (omega arith)

pub list_read : (l : SignedList) → FitsList l → list_in (list_bytes l) ≡ l
list_read l f =
    let n = length l.serials in
    let count = list_count l f in
    let serials : numbers 8 (part 12 (8 * number (part 10 2 (list_bytes l))) (list_bytes l)) ≡ l.serials =
    ap (λ m. numbers 8 (part 12 (8 * m) (list_bytes l))) count ∙ ap (numbers 8) (list_serials l) ∙ numbers_read l.serials f.serials in
    let seal : part (12 + 8 * number (part 10 2 (list_bytes l))) 64 (list_bytes l) ≡ l.seal =
    ap (λ m. part (12 + 8 * m) 64 (list_bytes l)) count ∙ ending (signed_list l) l.seal (12 + 8 * n) 64 (signed_list_long l) f.seal in
    λ i. record { authority = list_authority l i; at = list_at l f i; serials = serials i; seal = seal i }

pub certificate_read : (c : Certificate) → FitsCertificate c → certificate_in (certificate_bytes c) ≡ c
certificate_read c f = ap certificate_in (sym (append-nil (certificate_bytes c))) ∙ first_read c [] f

order_read : (name key : Bytes) → length key ≡ 32 → order (part 2 (length name) (5 ∷ (counted name ++ key))) (part (2 + length name) 32 (5 ∷ (counted name ++ key))) ≡ order name key
order_read name key long =
    let a = take_at name key (length name) refl in
    let b : part (2 + length name) 32 (5 ∷ (counted name ++ key)) ≡ key = ending (5 ∷ counted name) key (2 + length name) 32 (omega arith) long in
    λ i. order (a i) (b i)

-- a number, and what stands behind it
first_number : (kind n : ℕ) (t : Bytes) → n < 2 ^ 64 → number (part 1 8 (kind ∷ (big 8 n ++ t))) ≡ n
first_number kind n t l = ap number (take_at (big 8 n) t 8 (length-big 8 n)) ∙ number_big 8 n l

second_part : (kind n w : ℕ) (t : Bytes) → length t ≡ w → part 9 w (kind ∷ (big 8 n ++ t)) ≡ t
second_part kind n w t long = ending (big 8 n) t 8 w (length-big 8 n) long

second_number : (kind m n : ℕ) → n < 2 ^ 64 → number (part 9 8 (kind ∷ (big 8 m ++ big 8 n))) ≡ n
second_number kind m n l = ap number (second_part kind m 8 (big 8 n) (length-big 8 n)) ∙ number_big 8 n l

behind_two : (a b : ℕ) (t : Bytes) → behind 2 (a ∷ (b ∷ t)) ≡ t
behind_two a b t = take_all (length (a ∷ (b ∷ t)) - 2) t (omega arith)

bring_read : (c : Certificate) (p : SignedSct) → FitsCertificate c → FitsSct p → decode_kind 15 (15 ∷ (certificate_bytes c ++ sct_bytes p)) ≡ bring c p
unfolding decode_kind
bring_read c p f g =
    let a = certificate_bytes c in
    let s : Bytes = 15 ∷ (a ++ sct_bytes p) in
    let long : length s ≡ 107 + length a = omega (arith, length-append a (sct_bytes p), sct_long p g) in
    let front : part 1 (length s - 107) s ≡ a = take_at a (sct_bytes p) (length s - 107) (omega (arith, long)) in
    let back : part (length s - 106) 106 s ≡ sct_bytes p = ending (15 ∷ a) (sct_bytes p) (length s - 106) 106 (omega (arith, long)) (sct_long p g) in
    let x = ap certificate_in front ∙ certificate_read c f in
    let y = ap sct_in back ∙ sct_read p g in
    λ i. bring (x i) (y i)

present_read : (c : Certificate) (p q : SignedSct) → FitsCertificate c → FitsSct p → FitsSct q → decode_kind 16 (16 ∷ (certificate_bytes c ++ (sct_bytes p ++ sct_bytes q))) ≡ present c p q
unfolding decode_kind
present_read c p q f g h =
    let a = certificate_bytes c in
    let s : Bytes = 16 ∷ (a ++ (sct_bytes p ++ sct_bytes q)) in
    let long : length s ≡ 213 + length a = omega (arith, length-append a (sct_bytes p ++ sct_bytes q), length-append (sct_bytes p) (sct_bytes q), sct_long p g, sct_long q h) in
    let front : part 1 (length s - 213) s ≡ a = take_at a (sct_bytes p ++ sct_bytes q) (length s - 213) (omega (arith, long)) in
    let first : part (length s - 212) 106 s ≡ sct_bytes p = middle (16 ∷ a) (sct_bytes p) (sct_bytes q) (length s - 212) 106 (omega (arith, long)) (sct_long p g) in
    let second : part (length s - 106) 106 s ≡ sct_bytes q =
    ap (λ t. part (length s - 106) 106 (16 ∷ t)) (sym (append_assoc a (sct_bytes p) (sct_bytes q)))
    ∙ ending (16 ∷ (a ++ sct_bytes p)) (sct_bytes q) (length s - 106) 106 (omega (arith, long, length-append a (sct_bytes p), sct_long p g)) (sct_long q h) in
    let x = ap certificate_in front ∙ certificate_read c f in
    let y = ap sct_in first ∙ sct_read p g in
    let z = ap sct_in second ∙ sct_read q h in
    λ i. present (x i) (y i) (z i)

behind_all : (a t : Bytes) (i : ℕ) → length a ≡ i → behind i (a ++ t) ≡ t
behind_all a t i long = ending a t i (length (a ++ t) - i) long (omega (arith, length-append a t))

not_due_back : decode_answer 2 (29 ∷ (2 ∷ [])) ≡ answer not_due
unfolding decode_answer
not_due_back = refl

no_head_back : decode_answer 4 (29 ∷ (4 ∷ [])) ≡ answer no_head_so_late
unfolding decode_answer
no_head_back = refl

included_read : (h : SignedHead) (place : ℕ) (path : List Bytes) → FitsHead h → place < 2 ^ 64 → FitDigests path →
    decode_answer 1 (29 ∷ (1 ∷ (head_bytes h ++ (big 8 place ++ (length path ∷ row path))))) ≡ answer (included h place path)
unfolding decode_answer
included_read h place path f l g =
    let t : Bytes = big 8 place ++ (length path ∷ row path) in
    let s : Bytes = 29 ∷ (1 ∷ (head_bytes h ++ t)) in
    let x = ap head_in (take_at (head_bytes h) t 114 (head_long h f)) ∙ head_read h f in
    let y : number (part 116 8 s) ≡ place = number_there s 116 place (middle (head_bytes h) (big 8 place) (length path ∷ row path) 114 8 (head_long h f) (length-big 8 place)) l in
    let flat : s ≡ 29 ∷ (1 ∷ ((head_bytes h ++ (big 8 place ++ (length path ∷ []))) ++ row path)) =
    ap (λ z. 29 ∷ (1 ∷ z)) (sym (append_assoc (head_bytes h) (big 8 place ++ (length path ∷ [])) (row path) ∙ ap (λ z. head_bytes h ++ z) (append_assoc (big 8 place) (length path ∷ []) (row path)))) in
    let front : Bytes = 29 ∷ (1 ∷ (head_bytes h ++ (big 8 place ++ (length path ∷ [])))) in
    let long : length front ≡ 125 =
    omega (arith, length-append (head_bytes h) (big 8 place ++ (length path ∷ [])), length-append (big 8 place) (length path ∷ []), length-big 8 place, head_long h f) in
    let rest : behind 125 s ≡ row path = ap (behind 125) flat ∙ behind_all front (row path) 125 long in
    let z = ap (row_of 32) rest ∙ digests_read path g in
    λ i. answer (included (x i) (y i) (z i))

convicts_read : (h : SignedHead) (digests : List Bytes) → FitsHead h → FitDigests digests → decode_answer 3 (29 ∷ (3 ∷ (head_bytes h ++ row digests))) ≡ answer (convicts h digests)
unfolding decode_answer
convicts_read h digests f g =
    let x = ap head_in (take_at (head_bytes h) (row digests) 114 (head_long h f)) ∙ head_read h f in
    let rest : behind 116 (29 ∷ (3 ∷ (head_bytes h ++ row digests))) ≡ row digests = behind_all (29 ∷ (3 ∷ head_bytes h)) (row digests) 116 (omega (arith, head_long h f)) in
    let z = ap (row_of 32) rest ∙ digests_read digests g in
    λ i. answer (convicts (x i) (z i))

entries_back : (cs : List Certificate) → FitCertificates cs → certificates_in (length (behind 1 (28 ∷ flat_map certificate_bytes cs))) (behind 1 (28 ∷ flat_map certificate_bytes cs)) ≡ cs
entries_back cs f =
    ap (λ s. certificates_in (length s) s) (behind_kind 28 (flat_map certificate_bytes cs)) ∙ certificates_read (length (flat_map certificate_bytes cs)) cs f (omega arith)

certificate_kind : (c : Certificate) → decode (certificate_bytes c) ≡ certificate (certificate_in (certificate_bytes c))
unfolding signed_certificate decode_kind
certificate_kind c = refl

sct_kind : (p : SignedSct) → decode (sct_bytes p) ≡ sct (sct_in (sct_bytes p))
unfolding signed_sct decode_kind
sct_kind p = refl

head_kind : (h : SignedHead) → decode (head_bytes h) ≡ head (head_in (head_bytes h))
unfolding signed_head decode_kind
head_kind h = refl

list_kind : (l : SignedList) → decode (list_bytes l) ≡ list (list_in (list_bytes l))
unfolding signed_list decode_kind
list_kind l = refl

pub decodes_back : DecodesBack
unfolding encode answer_bytes decode_kind
decodes_back (certificate c) f = certificate_kind c ∙ ap certificate (certificate_read c f)
decodes_back (sct p) f = sct_kind p ∙ ap sct (sct_read p f)
decodes_back (head h) f = head_kind h ∙ ap head (head_read h f)
decodes_back (list l) f = list_kind l ∙ ap list (list_read l f)
decodes_back (order name key) f = order_read name key f.1
decodes_back (challenge serial nonce) f = λ i. challenge (first_number 6 serial nonce f.0 i) (second_part 6 serial 16 nonce f.1 i)
decodes_back (published serial) f = ap (λ s. published (number (part 1 8 (7 ∷ s)))) (sym (append-nil (big 8 serial))) ∙ ap published (first_number 7 serial [] f)
decodes_back (submit c) f = ap submit (ap certificate_in (behind_kind 8 (certificate_bytes c)) ∙ certificate_read c f)
decodes_back get_head f = refl
decodes_back (get_inclusion place count) f = λ i. get_inclusion (first_number 10 place (big 8 count) f.0 i) (second_number 10 place count f.1 i)
decodes_back (get_consistency from to) f = λ i. get_consistency (first_number 11 from (big 8 to) f.0 i) (second_number 11 from to f.1 i)
decodes_back (get_entries from to) f = λ i. get_entries (first_number 12 from (big 8 to) f.0 i) (second_number 12 from to f.1 i)
decodes_back (revoke serial seal) f = λ i. revoke (first_number 13 serial seal f.0 i) (second_part 13 serial 64 seal f.1 i)
decodes_back get_list f = refl
decodes_back (bring c p) f = bring_read c p f.0 f.1
decodes_back (present c p q) f = present_read c p q f.0 f.1 f.2
decodes_back (inclusion path) f = ap inclusion (ap (row_of 32) (behind_two 26 (length path) (row path)) ∙ digests_read path f.1)
decodes_back (consistency path) f = ap consistency (ap (row_of 32) (behind_two 27 (length path) (row path)) ∙ digests_read path f.1)
decodes_back (entries cs) f = ap entries (entries_back cs f)
decodes_back (answer (included h place path)) f = included_read h place path f.0 f.1 f.2.1
decodes_back (answer not_due) f = not_due_back
decodes_back (answer (convicts h digests)) f = convicts_read h digests f.0 f.2
decodes_back (answer no_head_so_late) f = no_head_back
decodes_back accepted f = refl
decodes_back (refused cause) f = refl

-- ---- so no two have the same bytes

pub canonical : Canonical
canonical s m n a b = sym (decodes_back m a.fits) ∙ ap decode (sym a.bytes ∙ b.bytes) ∙ decodes_back n b.fits

pub leaf_texts_apart : LeafTextsApart
leaf_texts_apart c d f g e = sym (certificate_read c f) ∙ ap (λ s. certificate_in (drop 1 s)) e ∙ certificate_read d g

evidence_read : (e : Evidence) → FitsEvidence e → evidence_in (evidence_bytes e) ≡ e
unfolding evidence_bytes
evidence_read e f =
    let a = sct_bytes e.sct in
    let b = head_bytes e.head in
    let t = row e.digests in
    let long = sct_long e.sct f.sct in
    let x = ap sct_in (take_at a (b ++ t) 106 long) ∙ sct_read e.sct f.sct in
    let y = ap head_in (middle a b t 106 114 long (head_long e.head f.head)) ∙ head_read e.head f.head in
    let both : length (a ++ b) ≡ 220 = omega (arith, length-append a b, long, head_long e.head f.head) in
    let rest : behind 220 (a ++ (b ++ t)) ≡ t = ap (behind 220) (sym (append_assoc a b t)) ∙ behind_all (a ++ b) t 220 both in
    let z = ap (row_of 32) rest ∙ digests_read e.digests f.digests in
    λ i. record { sct = x i; head = y i; digests = z i }

pub evidence_canonical : EvidenceCanonical
evidence_canonical s e f a b = sym (evidence_read e a.fits) ∙ ap evidence_in (sym a.bytes ∙ b.bytes) ∙ evidence_read f b.fits

settings_read : (t : Settings) → FitsSettings t → settings_in (settings_bytes t) ≡ t
unfolding settings_bytes big
settings_read t f =
    let a = number_big 4 t.mmd (omega (arith, f.mmd)) in
    let b = number_big 4 t.freshness (omega (arith, f.freshness)) in
    let d = number_big 4 t.lifetime (omega (arith, f.lifetime)) in
    λ i. record { mmd = a i; freshness = b i; lifetime = d i }

pub settings_canonical : SettingsCanonical
settings_canonical s t u a b = sym (settings_read t a.fits) ∙ ap settings_in (sym a.bytes ∙ b.bytes) ∙ settings_read u b.fits
