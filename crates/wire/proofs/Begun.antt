-- What the shape of a message says of what is left once its front was taken. Assumes nothing.
use Rattle.std.proofs.Common.{◌≡◌, ℕ, suc, ◌+◌, ◌-◌, ◌*◌, ◌^◌, ◌<◌, ◌≤◌, [], ◌∷◌, ◌++◌, length, get_or, take, drop, sym, refl, ap, ◌∙◌, append_assoc, arith}
use Rattle.std.proofs.lemmas.List.{length-append, take_at, drop_at, get_or-take, get_or-append_right, drop-drop, drop-take, take-take, length-take-le, nil_from_length}
use Rattle.model.specs.Objects.{Certificate}
use Rattle.wire_theory.specs.Bytes.{Bytes, big, number, numbers, part}
use Rattle.wire_theory.specs.Messages.{SignedSct, SignedHead, Rising}
use Rattle.wire_theory.specs.Messages.{signed_certificate, signed_head, certificate_bytes, sct_bytes, head_bytes}
use Rattle.wire_theory.specs.Messages.{FitsCertificate, FitsSct, FitsHead, FitsPath, row}
use Rattle.wire_theory.specs.Shapes.{CertificateShape, SctShape, HeadShape, ListShape, BringShape, PresentShape, AnswerShape, EvidenceShape, SettingsShape, serial_count}
use Rattle.wire_theory.proofs.Numbers.{length-big, number_big}
use Rattle.wire_theory.proofs.Shaped.{behind_kind, certificate_long, sct_long, head_long, row_long, middle, ending}
use Rattle.wire_theory.specs.Entries.{Begins, FirstShape, first_long}
use Rattle.wire.specs.declared.parts.Digests.{Digests}
use Rattle.wire.specs.Sound.{Whole}
use Rattle.wire.specs.Taking.{BeginsCertificate, BeginsHead, BeginsSct}
use Rattle.wire.specs.Views.{digests_of}

lengths : (s a t : Bytes) → s ≡ a ++ t → length s ≡ length a + length t
lengths s a t e = ap length e ∙ length-append a t

-- ---- certificates

named : (c : Certificate) (t : Bytes) → get_or (certificate_bytes c ++ t) 2 0 ≡ length c.name
unfolding signed_certificate
named c t = refl

certificate_first : (c : Certificate) (t : Bytes) → get_or (certificate_bytes c ++ t) 0 0 ≡ 1
unfolding signed_certificate
certificate_first c t = refl

pub certificate_fills : (s t : Bytes) (c : Certificate) → (s ≡ certificate_bytes c ++ t) × FitsCertificate c → length s ≡ 115 + get_or s 2 0 + length t
certificate_fills s t c h =
    let name : get_or s 2 0 ≡ length c.name = ap (λ x. get_or x 2 0) h.0 ∙ named c t in
    omega (arith, lengths s (certificate_bytes c) t h.0, certificate_long c h.1, name)

pub certificate_ends : (s t : Bytes) (c : Certificate) → (s ≡ certificate_bytes c ++ t) × FitsCertificate c → CertificateShape s → t ≡ []
certificate_ends s t c h shape = nil_from_length t (omega (arith, shape.2, certificate_fills s t c h))

-- the certificate is the first n bytes
certificate_front : (b t : Bytes) (c : Certificate) (n : ℕ) → (b ≡ certificate_bytes c ++ t) × FitsCertificate c → n ≤ length b → CertificateShape (take n b) → length (certificate_bytes c) ≡ n
certificate_front b t c n h few shape =
    let long : length (take n b) ≡ n = length-take-le n b few in
    let same : get_or (take n b) 2 0 ≡ get_or b 2 0 = get_or-take n b 2 0 (omega (arith, shape.2, long)) in
    omega (arith, shape.2, long, same, lengths b (certificate_bytes c) t h.0, certificate_fills b t c h)

sct_front : (r : Bytes) → 106 ≤ length r → SctShape (take 106 r) → BeginsSct r
sct_front r long shape = (sym (get_or-take 106 r 0 0 (omega arith)) ∙ shape.0, long)

pub bring_sct : (b r : Bytes) (c : Certificate) → (b ≡ certificate_bytes c ++ r) × FitsCertificate c → BringShape (15 ∷ b) → SctShape r
bring_sct b r c h shape =
    let front : length (certificate_bytes c) ≡ suc (length b) - 107 = certificate_front b r c (suc (length b) - 107) h (omega arith) shape.1 in
    let long : length r ≡ 106 = omega (arith, front, shape.0, lengths b (certificate_bytes c) r h.0) in
    let last : part (suc (length b) - 106) 106 (15 ∷ b) ≡ r =
    ap (λ s. part (suc (length b) - 106) 106 (15 ∷ s)) h.0 ∙ ending (15 ∷ certificate_bytes c) r (suc (length b) - 106) 106 (omega (arith, front, shape.0)) long in
    rw last at shape.2

module _ (b r : Bytes) (c : Certificate) (h : (b ≡ certificate_bytes c ++ r) × FitsCertificate c) (shape : PresentShape (16 ∷ b)) where
  front : length (certificate_bytes c) ≡ suc (length b) - 213
  front = certificate_front b r c (suc (length b) - 213) h (omega arith) shape.1

  pub present_long : length r ≡ 212
  present_long = omega (arith, front, shape.0, lengths b (certificate_bytes c) r h.0)

  pub present_first : BeginsSct r
  present_first =
      let first : part (suc (length b) - 212) 106 (16 ∷ b) ≡ take 106 r =
      ap (λ s. part (suc (length b) - 212) 106 (16 ∷ s)) h.0 ∙ ap (take 106) (drop_at (16 ∷ certificate_bytes c) r (suc (length b) - 212) (omega (arith, front, shape.0))) in
      sct_front r (omega (arith, present_long)) (rw first at shape.2)

  pub present_second : (t : Bytes) (p : SignedSct) → (r ≡ sct_bytes p ++ t) × FitsSct p → SctShape t
  present_second t p k =
      let long : length t ≡ 106 = omega (arith, present_long, lengths r (sct_bytes p) t k.0, sct_long p k.1) in
      let all : 16 ∷ b ≡ (16 ∷ (certificate_bytes c ++ sct_bytes p)) ++ t = ap (λ s. 16 ∷ s) (h.0 ∙ ap (λ s. certificate_bytes c ++ s) k.0 ∙ sym (append_assoc (certificate_bytes c) (sct_bytes p) t)) in
      let last : part (suc (length b) - 106) 106 (16 ∷ b) ≡ t =
      ap (part (suc (length b) - 106) 106) all
      ∙ ending (16 ∷ (certificate_bytes c ++ sct_bytes p)) t (suc (length b) - 106) 106 (omega (arith, front, shape.0, length-append (certificate_bytes c) (sct_bytes p), sct_long p k.1)) long in
      rw last at shape.3

pub sct_ends : (s t : Bytes) (p : SignedSct) → (s ≡ sct_bytes p ++ t) × FitsSct p → length s ≡ 106 → t ≡ []
sct_ends s t p h long = nil_from_length t (omega (arith, long, lengths s (sct_bytes p) t h.0, sct_long p h.1))

-- ---- heads

counted_in : (r : Bytes) → part 10 8 (take 114 r) ≡ part 10 8 r
counted_in r = ap (take 8) (drop-take 10 104 r) ∙ take-take 8 104 (drop 10 r) (omega arith)

head_front : (r : Bytes) → 114 ≤ length r → HeadShape (take 114 r) → BeginsHead r
head_front r long shape = (sym (get_or-take 114 r 0 0 (omega arith)) ∙ shape.0, long, rw (counted_in r) at shape.2)

told : (h : SignedHead) (t : Bytes) → FitsHead h → number (part 10 8 (head_bytes h ++ t)) ≡ h.count
unfolding signed_head big
told h t f = number_big 8 h.count (omega (arith, f.count))

pub head_told : (s t : Bytes) (h : SignedHead) → (s ≡ head_bytes h ++ t) × FitsHead h → (number (part 10 8 s) ≡ h.count) × (length s ≡ 114 + length t)
head_told s t h k = (ap (λ x. number (part 10 8 x)) k.0 ∙ told h t k.1, omega (arith, lengths s (head_bytes h) t k.0, head_long h k.1))

pub head_ends : (s t : Bytes) (h : SignedHead) → (s ≡ head_bytes h ++ t) × FitsHead h → length s ≡ 114 → t ≡ []
head_ends s t h k long = nil_from_length t (omega (arith, long, (head_told s t h k).1))

pub evidence_head : (s r : Bytes) (p : SignedSct) → (s ≡ sct_bytes p ++ r) × FitsSct p → EvidenceShape s → BeginsHead r
evidence_head s r p h shape =
    let rest : drop 106 s ≡ r = ap (drop 106) h.0 ∙ drop_at (sct_bytes p) r 106 (sct_long p h.1) in
    head_front r (omega (arith, shape.0, lengths s (sct_bytes p) r h.0, sct_long p h.1)) (rw rest at shape.2)

pub evidence_digests : (s r t : Bytes) (p : SignedSct) (h : SignedHead) → (s ≡ sct_bytes p ++ r) × FitsSct p → (r ≡ head_bytes h ++ t) × FitsHead h → EvidenceShape s → length t ≡ 32 * h.count
evidence_digests s r t p h e k shape =
    let rest : drop 106 s ≡ r = ap (drop 106) e.0 ∙ drop_at (sct_bytes p) r 106 (sct_long p e.1) in
    let count : number (part 10 8 (part 106 114 s)) ≡ h.count = ap (λ x. number (part 10 8 (take 114 x))) rest ∙ ap number (counted_in r) ∙ (head_told r t h k).0 in
    omega (arith, shape.3, count, lengths s (sct_bytes p) r e.0, sct_long p e.1, (head_told r t h k).1)

pub convicts_digests : (b t : Bytes) (h : SignedHead) → (b ≡ head_bytes h ++ t) × FitsHead h → AnswerShape 3 (29 ∷ (3 ∷ b)) → length t ≡ 32 * h.count
convicts_digests b t h k shape =
    let count : number (part 10 8 (take 114 b)) ≡ h.count = ap number (counted_in b) ∙ (head_told b t h k).0 in
    omega (arith, shape.2, count, (head_told b t h k).1)

-- what is left holds the place and a path
pub included_place : (b r : Bytes) (h : SignedHead) → (b ≡ head_bytes h ++ r) × FitsHead h → AnswerShape 1 (29 ∷ (1 ∷ b)) → length r ≡ 9 + 32 * get_or r 8 0
included_place b r h k shape =
    let there : get_or b 122 0 ≡ get_or r 8 0 = ap (λ x. get_or x 122 0) k.0 ∙ get_or-append_right (head_bytes h) r 114 122 0 (head_long h k.1) (omega arith) in
    omega (arith, shape.2, there, (head_told b r h k).1)

pub included_path : (b r t : Bytes) (h : SignedHead) (n : ℕ) → (b ≡ head_bytes h ++ r) × FitsHead h → r ≡ big 8 n ++ t → AnswerShape 1 (29 ∷ (1 ∷ b)) → length t ≡ 1 + 32 * get_or t 0 0
included_path b r t h n k e shape =
    let there : get_or r 8 0 ≡ get_or t 0 0 = ap (λ x. get_or x 8 0) e ∙ get_or-append_right (big 8 n) t 8 8 0 (length-big 8 n) (omega arith) in
    omega (arith, included_place b r h k shape, there, lengths r (big 8 n) t e, length-big 8 n)

-- ---- lists

module _ (b r t u : Bytes) (a at n : ℕ) (first : b ≡ a ∷ r) (second : r ≡ big 8 at ++ t) (third : t ≡ big 2 n ++ u) (few : n < 65536) (shape : ListShape (4 ∷ b)) where
  flat : 4 ∷ b ≡ (4 ∷ (a ∷ big 8 at)) ++ (big 2 n ++ u)
  flat = cc

  list_count : serial_count (4 ∷ b) ≡ n
  list_count = ap serial_count flat ∙ ap number (middle (4 ∷ (a ∷ big 8 at)) (big 2 n) u 10 2 (omega (arith, length-big 8 at)) (length-big 2 n)) ∙ number_big 2 n (omega arith)

  pub list_few : n ≤ 1024
  list_few = omega (arith, list_count, shape.1)

  pub list_long : length u ≡ 64 + 8 * n
  list_long = omega (arith, list_count, shape.2, ap length flat, length-append (4 ∷ (a ∷ big 8 at)) (big 2 n ++ u), length-append (big 2 n) u, length-big 8 at, length-big 2 n)

  pub list_rising : (p v : Bytes) → u ≡ p ++ v → length p ≡ 8 * n → Rising (numbers 8 p)
  list_rising p v e long =
      let rest : drop 12 (4 ∷ b) ≡ u = ap (drop 12) (flat ∙ sym (append_assoc (4 ∷ (a ∷ big 8 at)) (big 2 n) u)) ∙ drop_at ((4 ∷ (a ∷ big 8 at)) ++ big 2 n) u 12 (omega (arith, length-append (4 ∷ (a ∷ big 8 at)) (big 2 n), length-big 8 at, length-big 2 n)) in
      let front : part 12 (8 * n) (4 ∷ b) ≡ p = ap (take (8 * n)) (rest ∙ e) ∙ take_at p v (8 * n) long in
      rw (list_count, front) at shape.3

  -- with the serials taken
  pub list_left : (p v : Bytes) → (u ≡ p ++ v) × (length p ≡ 8 * n) → length v ≡ 64
  list_left p v h = omega (arith, list_long, lengths u p v h.0, h.1)

-- ---- to the end

pub sct_begins : (s : Bytes) → SctShape s → BeginsSct s
sct_begins s shape = (shape.0, omega (arith, shape.1))

pub submit_ends : (b t : Bytes) (c : Certificate) → (b ≡ certificate_bytes c ++ t) × FitsCertificate c → CertificateShape (part 1 (length (8 ∷ b) - 1) (8 ∷ b)) → t ≡ []
submit_ends b t c h shape = certificate_ends b t c h (rw (behind_kind 8 b) at shape)

pub row_ends : (s t p : Bytes) (n : ℕ) → (s ≡ p ++ t) × (length p ≡ n) → length s ≡ n → t ≡ []
row_ends s t p n h long = nil_from_length t (omega (arith, long, lengths s p t h.0, h.1))

pub path_ends : (s t : Bytes) (d : Digests) → (s ≡ (length (digests_of d) ∷ row (digests_of d)) ++ t) × FitsPath (digests_of d) × Whole 32 d.bytes.now → length s ≡ 1 + 32 * get_or s 0 0 → t ≡ []
path_ends s t d h long =
    let ds = digests_of d in
    let count : get_or s 0 0 ≡ length ds = ap (λ x. get_or x 0 0) h.0 in
    nil_from_length t (omega (arith, long, count, lengths s (length ds ∷ row ds) t h.0, row_long ds h.1.1))

pub begins_certificate : (s : Bytes) → Begins s → BeginsCertificate s
begins_certificate s (c, t, f, e) =
    let name : get_or s 2 0 ≡ length c.name = ap (λ x. get_or x 2 0) e ∙ named c t in
    (ap (λ x. get_or x 0 0) e ∙ certificate_first c t, omega (arith, name, f.name), omega (arith, certificate_fills s t c (e, f)))

pub entries_told : (b : Bytes) (m n : ℕ) → b ≡ big 8 m ++ big 8 n → m < 2 ^ 64 → n < 2 ^ 64 → (number (part 1 8 (12 ∷ b)) ≡ m) × (number (part 9 8 (12 ∷ b)) ≡ n)
entries_told b m n e small tiny = (
  ap (λ x. number (part 1 8 (12 ∷ x))) e ∙ ap number (take_at (big 8 m) (big 8 n) 8 (length-big 8 m)) ∙ number_big 8 m small,
  ap (λ x. number (part 9 8 (12 ∷ x))) e ∙ ap number (ending (big 8 m) (big 8 n) 8 8 (length-big 8 m) (length-big 8 n)) ∙ number_big 8 n tiny,
)

pub not_empty : (s : Bytes) → (s ≡ [] → ⊥) → 0 < length s
not_empty [] h = absurd (h refl)
not_empty (b ∷ s) h = omega arith

-- ---- settings

pub settings_second : (s r : Bytes) (a : ℕ) → s ≡ big 4 a ++ r → SettingsShape s → (length r ≡ 8) × ((2 ≤ number (take 4 r)) × (number (take 4 r) ≤ 86400))
settings_second s r a e shape =
    let rest : drop 4 s ≡ r = ap (drop 4) e ∙ drop_at (big 4 a) r 4 (length-big 4 a) in
    (omega (arith, shape.0, lengths s (big 4 a) r e, length-big 4 a), rw rest at shape.2)

pub settings_third : (s r t : Bytes) (a b : ℕ) → s ≡ big 4 a ++ r → r ≡ big 4 b ++ t → SettingsShape s → (length t ≡ 4) × ((1 ≤ number (take 4 t)) × (number (take 4 t) ≤ 31536000))
settings_third s r t a b e f shape =
    let rest : drop 8 s ≡ t = sym (drop-drop 4 4 s) ∙ ap (drop 4) (ap (drop 4) e ∙ drop_at (big 4 a) r 4 (length-big 4 a) ∙ f) ∙ drop_at (big 4 b) t 4 (length-big 4 b) in
    (omega (arith, (settings_second s r a e shape).0, lengths r (big 4 b) t f, length-big 4 b), rw rest at shape.3)

pub settings_end : (s r t u : Bytes) (a b c : ℕ) → s ≡ big 4 a ++ r → r ≡ big 4 b ++ t → t ≡ big 4 c ++ u → SettingsShape s → u ≡ []
settings_end s r t u a b c e f g shape = nil_from_length u (omega (arith, (settings_third s r t a b e f shape).0, lengths t (big 4 c) u g, length-big 4 c))

pub word_told : (s r : Bytes) (n : ℕ) → s ≡ big 4 n ++ r → n < 2 ^ 32 → number (take 4 s) ≡ n
word_told s r n e small = ap (λ x. number (take 4 x)) e ∙ ap number (take_at (big 4 n) r 4 (length-big 4 n)) ∙ number_big 4 n small

pub first_begins : (s : Bytes) → FirstShape s → BeginsCertificate s
first_begins s (long, shape) =
    let n = first_long s in
    (sym (get_or-take n s 0 0 (omega arith)) ∙ shape.0, omega (arith, shape.1, get_or-take n s 2 0 (omega arith)), long)
