-- The bytes of every message are of the shape of its kind. Assumes nothing.
use Rattle.std.proofs.Common.{◌≡◌, ℕ, suc, ◌+◌, ◌-◌, ◌*◌, ◌/◌, ◌^◌, ◌<◌, ◌≤◌, List, [], ◌∷◌, ◌++◌, map, length, get_or, take, sym, refl, ap, ◌∙◌, subst, arith}
use Rattle.std.specs.List.{flat_map}
use Rattle.std.proofs.lemmas.List.{length-append, take_at, take_all, drop_at, get_or-append_right, append_assoc}
use Rattle.model.specs.Objects.{Certificate}
use Rattle.wire_theory.specs.Bytes.{Bytes, big, number, part, pieces, row_of, numbers}
use Rattle.wire_theory.specs.Messages.{SignedSct, SignedHead, SignedList, Message, Evidence, Settings}
use Rattle.wire_theory.specs.Messages.{certificate, sct, head, list, order, challenge, published, submit, get_head, get_inclusion, get_consistency, get_entries, revoke, get_list, bring, present}
use Rattle.wire_theory.specs.Messages.{inclusion, consistency, entries, answer, accepted, refused, included, not_due, convicts, no_head_so_late}
use Rattle.wire_theory.specs.Messages.{signed_certificate, signed_sct, signed_head, signed_list, certificate_bytes, sct_bytes, head_bytes, list_bytes, answer_bytes, evidence_bytes, settings_bytes, encode, row}
use Rattle.wire_theory.specs.Messages.{FitsCertificate, FitsSct, FitsHead, FitsList, FitDigests, Fits, Encodes, FitsEvidence, FitsSettings}
use Rattle.wire_theory.specs.Shapes.{CertificateShape, SctShape, HeadShape, ListShape, BringShape, PresentShape, EvidenceShape, SettingsShape, serial_count, Shaped}
use Rattle.wire_theory.proofs.Numbers.{length-big, number_big}

pub certificate_long : (c : Certificate) → FitsCertificate c → length (certificate_bytes c) ≡ 115 + length c.name
unfolding signed_certificate
certificate_long c f =
    simp (length-append, length-big) (omega (arith, f.key, f.seal))

pub certificate_shaped : (c : Certificate) → FitsCertificate c → CertificateShape (certificate_bytes c)
unfolding signed_certificate
certificate_shaped c f = (refl, f.name, certificate_long c f)

pub sct_long : (p : SignedSct) → FitsSct p → length (sct_bytes p) ≡ 106
unfolding signed_sct
sct_long p f = simp (length-append, length-big) (omega (arith, f.digest, f.seal))

pub sct_shaped : (p : SignedSct) → FitsSct p → SctShape (sct_bytes p)
unfolding signed_sct
sct_shaped p f = (refl, sct_long p f)

pub head_long : (h : SignedHead) → FitsHead h → length (head_bytes h) ≡ 114
unfolding signed_head
head_long h f = simp (length-append, length-big) (omega (arith, f.root, f.seal))

pub head_count : (h : SignedHead) → FitsHead h → number (part 10 8 (head_bytes h)) ≡ h.count
unfolding signed_head big
head_count h f = number_big 8 h.count (omega (arith, f.count))

pub head_shaped : (h : SignedHead) → FitsHead h → HeadShape (head_bytes h)
unfolding signed_head
head_shaped h f = (refl, head_long h f, rw (head_count h f) f.count)

-- ---- rows

pub joined_numbers_long : (ns : List ℕ) → length (flat_map (big 8) ns) ≡ 8 * length ns
joined_numbers_long [] = refl
joined_numbers_long (n ∷ ns) = simp (length-append, length-big) (omega (arith, joined_numbers_long ns))

pub pieces_numbers : (ns : List ℕ) → pieces 8 (length ns) (flat_map (big 8) ns) ≡ map (big 8) ns
unfolding pieces
pieces_numbers [] = refl
pieces_numbers (n ∷ ns) =
    let front = take_at (big 8 n) (flat_map (big 8) ns) 8 (length-big 8 n) in
    let back = drop_at (big 8 n) (flat_map (big 8) ns) 8 (length-big 8 n) in
    let rest = ap (pieces 8 (length ns)) back ∙ pieces_numbers ns in
    λ i. front i ∷ rest i

map-numbers : (ns : List ℕ) → ((k : ℕ) → k < length ns → get_or ns k 0 < 2 ^ 64) → map number (map (big 8) ns) ≡ ns
map-numbers [] h = refl
map-numbers (n ∷ ns) h =
    let first = number_big 8 n (h 0 (omega arith)) in
    let rest = map-numbers ns (λ k l. h (suc k) (omega arith)) in
    λ i. first i ∷ rest i

-- numbers are read as those that were written
pub numbers_read : (ns : List ℕ) → ((k : ℕ) → k < length ns → get_or ns k 0 < 2 ^ 64) → numbers 8 (flat_map (big 8) ns) ≡ ns
numbers_read ns h =
    let count : length (flat_map (big 8) ns) / 8 ≡ length ns = omega (arith, joined_numbers_long ns) in
    ap (λ m. map number (pieces 8 m (flat_map (big 8) ns))) count ∙ ap (map number) (pieces_numbers ns) ∙ map-numbers ns h

pub row_long : (ds : List Bytes) → FitDigests ds → length (row ds) ≡ 32 * length ds
row_long [] h = refl
row_long (d ∷ ds) h = simp length-append (omega (arith, h 0 (omega arith), row_long ds (λ k l. h (suc k) (omega arith))))

pub pieces_digests : (ds : List Bytes) → FitDigests ds → pieces 32 (length ds) (row ds) ≡ ds
unfolding pieces
pieces_digests [] h = refl
pieces_digests (d ∷ ds) h =
    let long = h 0 (omega arith) in
    let front = take_at d (row ds) 32 long in
    let back = drop_at d (row ds) 32 long in
    let rest = ap (pieces 32 (length ds)) back ∙ pieces_digests ds (λ k l. h (suc k) (omega arith)) in
    λ i. front i ∷ rest i

-- digests are read as those that were written
pub digests_read : (ds : List Bytes) → FitDigests ds → row_of 32 (row ds) ≡ ds
digests_read ds h =
    let count : length (row ds) / 32 ≡ length ds = omega (arith, row_long ds h) in
    ap (λ m. pieces 32 m (row ds)) count ∙ pieces_digests ds h

pub list_long : (l : SignedList) → FitsList l → length (list_bytes l) ≡ 76 + 8 * length l.serials
unfolding signed_list
list_long l f = simp (length-append, length-big, joined_numbers_long) (omega (arith, f.seal))

pub list_count : (l : SignedList) → FitsList l → serial_count (list_bytes l) ≡ length l.serials
unfolding signed_list big
list_count l f = number_big 2 (length l.serials) (omega (arith, f.few))

pub list_serials : (l : SignedList) → part 12 (8 * length l.serials) (list_bytes l) ≡ flat_map (big 8) l.serials
unfolding signed_list big
list_serials l = take_at (flat_map (big 8) l.serials) l.seal (8 * length l.serials) (joined_numbers_long l.serials)

list_kind : (l : SignedList) → get_or (list_bytes l) 0 0 ≡ 4
unfolding signed_list
list_kind l = refl

pub list_shaped : (l : SignedList) → FitsList l → ListShape (list_bytes l)
list_shaped l f =
    let count = list_count l f in
    let serials : numbers 8 (part 12 (8 * serial_count (list_bytes l)) (list_bytes l)) ≡ l.serials =
    ap (λ n. numbers 8 (part 12 (8 * n) (list_bytes l))) count ∙ ap (numbers 8) (list_serials l) ∙ numbers_read l.serials f.serials in
    (list_kind l, rw count f.few, rw count (list_long l f), rw serials f.rising)

-- ---- one behind the other

-- a middle part
pub middle : (a b t : Bytes) (i n : ℕ) → length a ≡ i → length b ≡ n → part i n (a ++ (b ++ t)) ≡ b
middle a b t i n e f = ap (take n) (drop_at a (b ++ t) i e) ∙ take_at b t n f

-- the last part
pub ending : (a b : Bytes) (i n : ℕ) → length a ≡ i → length b ≡ n → part i n (a ++ b) ≡ b
ending a b i n e f = ap (take n) (drop_at a b i e) ∙ take_all n b (omega arith)

bring_shaped : (c : Certificate) (p : SignedSct) → FitsCertificate c → FitsSct p → BringShape (15 ∷ (certificate_bytes c ++ sct_bytes p))
bring_shaped c p f g =
    let a = certificate_bytes c in
    let long : length (15 ∷ (a ++ sct_bytes p)) ≡ 107 + length a = omega (arith, length-append a (sct_bytes p), sct_long p g) in
    let front : part 1 (length (15 ∷ (a ++ sct_bytes p)) - 107) (15 ∷ (a ++ sct_bytes p)) ≡ a = rw long (take_at a (sct_bytes p) (107 + length a - 107) (omega arith)) in
    let back : part (length (15 ∷ (a ++ sct_bytes p)) - 106) 106 (15 ∷ (a ++ sct_bytes p)) ≡ sct_bytes p =
    rw long (ending (15 ∷ a) (sct_bytes p) (107 + length a - 106) 106 (omega arith) (sct_long p g)) in
    (omega (arith, long), rw front (certificate_shaped c f), rw back (sct_shaped p g))

present_shaped : (c : Certificate) (p q : SignedSct) → FitsCertificate c → FitsSct p → FitsSct q → PresentShape (16 ∷ (certificate_bytes c ++ (sct_bytes p ++ sct_bytes q)))
present_shaped c p q f g h =
    let a = certificate_bytes c in
    let s : Bytes = 16 ∷ (a ++ (sct_bytes p ++ sct_bytes q)) in
    let long : length s ≡ 213 + length a = omega (arith, length-append a (sct_bytes p ++ sct_bytes q), length-append (sct_bytes p) (sct_bytes q), sct_long p g, sct_long q h) in
    let front : part 1 (length s - 213) s ≡ a = rw long (take_at a (sct_bytes p ++ sct_bytes q) (213 + length a - 213) (omega arith)) in
    let first : part (length s - 212) 106 s ≡ sct_bytes p = rw long (middle (16 ∷ a) (sct_bytes p) (sct_bytes q) (213 + length a - 212) 106 (omega arith) (sct_long p g)) in
    let second : part (length s - 106) 106 s ≡ sct_bytes q =
    rw (long, sym (append_assoc a (sct_bytes p) (sct_bytes q)))
    (ending (16 ∷ (a ++ sct_bytes p)) (sct_bytes q) (213 + length a - 106) 106 (omega (arith, length-append a (sct_bytes p), sct_long p g)) (sct_long q h)) in
    (omega (arith, long), rw front (certificate_shaped c f), rw first (sct_shaped p g), rw second (sct_shaped q h))

head_part : (h : SignedHead) (t : Bytes) → FitsHead h → HeadShape (take 114 (head_bytes h ++ t))
head_part h t f = rw (take_at (head_bytes h) t 114 (head_long h f)) (head_shaped h f)

place_count : (h : SignedHead) (place n : ℕ) (t : Bytes) → FitsHead h → get_or (head_bytes h ++ (big 8 place ++ (n ∷ t))) 122 0 ≡ n
unfolding big
place_count h place n t f = get_or-append_right (head_bytes h) (big 8 place ++ (n ∷ t)) 114 122 0 (head_long h f) (omega arith)

pub behind_kind : (kind : ℕ) (t : Bytes) → part 1 (length (kind ∷ t) - 1) (kind ∷ t) ≡ t
behind_kind kind t = take_all (length (kind ∷ t) - 1) t (omega arith)

entries_asked_shaped : (from to : ℕ) → (from < 2 ^ 64) × (to < 2 ^ 64) × (to ≤ from + 64) →
    (length (12 ∷ (big 8 from ++ big 8 to)) ≡ 17) × (number (part 9 8 (12 ∷ (big 8 from ++ big 8 to))) ≤ number (part 1 8 (12 ∷ (big 8 from ++ big 8 to))) + 64)
entries_asked_shaped from to f =
    let a : number (part 1 8 (12 ∷ (big 8 from ++ big 8 to))) ≡ from = ap number (take_at (big 8 from) (big 8 to) 8 (length-big 8 from)) ∙ number_big 8 from f.0 in
    let b : number (part 9 8 (12 ∷ (big 8 from ++ big 8 to))) ≡ to = ap number (ending (big 8 from) (big 8 to) 8 8 (length-big 8 from) (length-big 8 to)) ∙ number_big 8 to f.1 in
    (simp (length-append, length-big), rw (a, b) f.2)

pub shaped : (m : Message) → Fits m → Shaped (encode m)
unfolding encode answer_bytes signed_certificate signed_sct signed_head signed_list
shaped (certificate c) f = certificate_shaped c f
shaped (sct p) f = sct_shaped p f
shaped (head h) f = head_shaped h f
shaped (list l) f = list_shaped l f
shaped (order name key) f = (f.0, simp length-append (omega (arith, f.1)))
shaped (challenge serial nonce) f = simp (length-append, length-big) (omega (arith, f.1))
shaped (published serial) f = simp length-big
shaped (submit c) f = rw (behind_kind 8 (certificate_bytes c)) (certificate_shaped c f)
shaped get_head f = refl
shaped (get_inclusion place count) f = simp (length-append, length-big)
shaped (get_consistency from to) f = simp (length-append, length-big)
shaped (get_entries from to) f = entries_asked_shaped from to f
shaped (revoke serial seal) f = simp (length-append, length-big) (omega (arith, f.1))
shaped get_list f = refl
shaped (bring c p) f = bring_shaped c p f.0 f.1
shaped (present c p q) f = present_shaped c p q f.0 f.1 f.2
shaped (inclusion path) f = omega (arith, row_long path f.1)
shaped (consistency path) f = omega (arith, row_long path f.1)
shaped (entries cs) f = (cs, record { bytes = behind_kind 28 (flat_map certificate_bytes cs); fits = f })
shaped (answer (included h place path)) f =
    let long : length (head_bytes h ++ (big 8 place ++ (length path ∷ row path))) ≡ 123 + 32 * length path =
    omega (arith, length-append (head_bytes h) (big 8 place ++ (length path ∷ row path)), length-append (big 8 place) (length path ∷ row path), length-big 8 place, row_long path f.2.1, head_long h f.0) in
    (omega (arith, long), head_part h _ f.0, rw (place_count h place (length path) (row path) f.0) (omega (arith, long)))
shaped (answer not_due) f = refl
shaped (answer (convicts h digests)) f =
    let long : length (head_bytes h ++ row digests) ≡ 114 + 32 * h.count = omega (arith, length-append (head_bytes h) (row digests), row_long digests f.2, head_long h f.0, f.1) in
    let count : number (part 10 8 (take 114 (head_bytes h ++ row digests))) ≡ h.count = ap (λ a. number (part 10 8 a)) (take_at (head_bytes h) (row digests) 114 (head_long h f.0)) ∙ head_count h f.0 in
    (omega (arith, long), head_part h _ f.0, rw count (omega (arith, long)))
shaped (answer no_head_so_late) f = refl
shaped accepted f = refl
shaped (refused cause) f = (refl, f.0, f.1)

-- ---- evidence and settings

pub evidence_shaped : (e : Evidence) → FitsEvidence e → EvidenceShape (evidence_bytes e)
unfolding evidence_bytes
evidence_shaped e f =
    let a = sct_bytes e.sct in
    let b = head_bytes e.head in
    let t = row e.digests in
    let long : length (a ++ (b ++ t)) ≡ 220 + 32 * e.head.count =
    omega (arith, length-append a (b ++ t), length-append b t, row_long e.digests f.digests, head_long e.head f.head, sct_long e.sct f.sct, f.count) in
    let front = take_at a (b ++ t) 106 (sct_long e.sct f.sct) in
    let behind = middle a b t 106 114 (sct_long e.sct f.sct) (head_long e.head f.head) in
    let count : number (part 10 8 (part 106 114 (a ++ (b ++ t)))) ≡ e.head.count = ap (λ x. number (part 10 8 x)) behind ∙ head_count e.head f.head in
    (omega (arith, long), rw front (sct_shaped e.sct f.sct), rw behind (head_shaped e.head f.head), rw count long)

pub settings_shaped : (t : Settings) → FitsSettings t → SettingsShape (settings_bytes t)
unfolding settings_bytes big
settings_shaped t f =
    let a = number_big 4 t.mmd (omega (arith, f.mmd)) in
    let b = number_big 4 t.freshness (omega (arith, f.freshness)) in
    let d = number_big 4 t.lifetime (omega (arith, f.lifetime)) in
    (refl, rw a f.mmd, rw b f.freshness, rw d f.lifetime)

-- ---- so bytes without the shape are of none

pub not_shaped : {A : Type 0} (bytes_of : A → Bytes) (FitsA : A → Type 0) (Shape : Bytes → Type 0) → ((a : A) → FitsA a → Shape (bytes_of a)) → (s : Bytes) → (Shape s → ⊥) → (a : A) → Encodes bytes_of FitsA s a → ⊥
not_shaped bytes_of FitsA Shape has s fails a is = fails (subst Shape (sym is.bytes) (has a is.fits))

-- a head's count, by its place
pub count_told : (s : Bytes) (h : SignedHead) → Encodes head_bytes FitsHead s h → number (part 10 8 s) ≡ h.count
count_told s h is = ap (λ x. number (part 10 8 x)) is.bytes ∙ head_count h is.fits
