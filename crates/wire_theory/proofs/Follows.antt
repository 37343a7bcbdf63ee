-- Certificates one after the other are told apart. Assumes nothing.
use Rattle.std.proofs.Common.{◌≡◌, ℕ, zero, suc, ◌+◌, ◌<◌, ◌≤◌, List, [], ◌∷◌, ◌++◌, length, get_or, drop, sym, refl, ap, ◌∙◌, subst, append_assoc, arith}
use Rattle.std.specs.List.{flat_map}
use Rattle.std.proofs.lemmas.List.{length-append, take_at, drop_at, nil_from_length}
use Rattle.model.specs.Objects.{Certificate}
use Rattle.wire_theory.specs.Bytes.{Bytes, big, number, part}
use Rattle.wire_theory.specs.Messages.{FitsCertificate, FitCertificates, Encodes, certificate_bytes, signed_certificate, counted}
use Rattle.wire_theory.specs.Entries.{Begins, FirstShape, certificate_in, certificates_in, first_long}
use Rattle.wire_theory.specs.Shapes.{EntriesShape}
use Rattle.wire_theory.proofs.Numbers.{length-big, number_big}
use Rattle.wire_theory.proofs.Shaped.{certificate_long, certificate_shaped, middle}

name_long : (c : Certificate) (t : Bytes) → get_or (certificate_bytes c ++ t) 2 0 ≡ length c.name
unfolding signed_certificate
name_long c t = refl

-- what a certificate is followed by doesn't matter
pub first_long_lem : (c : Certificate) (t : Bytes) → FitsCertificate c → length (certificate_bytes c) ≡ first_long (certificate_bytes c ++ t)
first_long_lem c t f = certificate_long c f ∙ ap (λ n. 115 + n) (sym (name_long c t))

pub first_shaped : (s : Bytes) → Begins s → FirstShape s
first_shaped s (c, t, f, e) =
    let long = first_long_lem c t f in
    subst FirstShape (sym e)
    (omega (arith, length-append (certificate_bytes c) t, long), rw (take_at (certificate_bytes c) t (first_long (certificate_bytes c ++ t)) long) (certificate_shaped c f))

-- the certificate that bytes begin with is read
pub first_read : (c : Certificate) (t : Bytes) → FitsCertificate c → certificate_in (certificate_bytes c ++ t) ≡ c
unfolding signed_certificate
first_read c t f =
    let n = length c.name in
    let head : Bytes = 1 ∷ (c.issuer ∷ counted c.name) in
    let a : Bytes = c.seal ++ t in
    let b : Bytes = big 8 c.expiry ++ a in
    let d : Bytes = big 8 c.serial ++ b in
    let flat : certificate_bytes c ++ t ≡ head ++ (c.key ++ d) = simp append_assoc in
    let name : part 3 n (head ++ (c.key ++ d)) ≡ c.name = take_at c.name (c.key ++ d) n refl in
    let key : part (3 + n) 32 (head ++ (c.key ++ d)) ≡ c.key = middle head c.key d (3 + n) 32 (omega arith) f.key in
    let flat-2 : head ++ (c.key ++ d) ≡ (head ++ c.key) ++ (big 8 c.serial ++ b) = simp append_assoc in
    let flat-3 : head ++ (c.key ++ d) ≡ ((head ++ c.key) ++ big 8 c.serial) ++ (big 8 c.expiry ++ a) = simp append_assoc in
    let flat-4 : head ++ (c.key ++ d) ≡ (((head ++ c.key) ++ big 8 c.serial) ++ big 8 c.expiry) ++ (c.seal ++ t) = simp append_assoc in
    let long : length (head ++ c.key) ≡ 35 + n = omega (arith, length-append head c.key, f.key) in
    let long-3 : length ((head ++ c.key) ++ big 8 c.serial) ≡ 43 + n = omega (arith, length-append (head ++ c.key) (big 8 c.serial), long, length-big 8 c.serial) in
    let long-4 : length (((head ++ c.key) ++ big 8 c.serial) ++ big 8 c.expiry) ≡ 51 + n =
    omega (arith, length-append ((head ++ c.key) ++ big 8 c.serial) (big 8 c.expiry), long-3, length-big 8 c.expiry) in
    let serial : number (part (35 + n) 8 (head ++ (c.key ++ d))) ≡ c.serial =
    ap (λ s. number (part (35 + n) 8 s)) flat-2 ∙ ap number (middle (head ++ c.key) (big 8 c.serial) b (35 + n) 8 long (length-big 8 c.serial)) ∙ number_big 8 c.serial f.serial in
    let expiry : number (part (43 + n) 8 (head ++ (c.key ++ d))) ≡ c.expiry =
    ap (λ s. number (part (43 + n) 8 s)) flat-3 ∙ ap number (middle ((head ++ c.key) ++ big 8 c.serial) (big 8 c.expiry) a (43 + n) 8 long-3 (length-big 8 c.expiry)) ∙ number_big 8 c.expiry f.expiry in
    let seal : part (51 + n) 64 (head ++ (c.key ++ d)) ≡ c.seal =
    ap (part (51 + n) 64) flat-4 ∙ middle (((head ++ c.key) ++ big 8 c.serial) ++ big 8 c.expiry) c.seal t (51 + n) 64 long-4 f.seal in
    ap certificate_in flat ∙ (λ i. record { issuer = c.issuer; name = name i; key = key i; serial = serial i; expiry = expiry i; seal = seal i })

-- so of two certificates that bytes begin with both are the same, and so is what stands behind
pub first_same : (c d : Certificate) (t u : Bytes) → FitsCertificate c → FitsCertificate d → certificate_bytes c ++ t ≡ certificate_bytes d ++ u → (c ≡ d) × (t ≡ u)
first_same c d t u f g e =
    let same : c ≡ d = sym (first_read c t f) ∙ ap certificate_in e ∙ first_read d u g in
    let long = first_long_lem d u g in
    let front : length (certificate_bytes c) ≡ first_long (certificate_bytes d ++ u) = first_long_lem c t f ∙ ap first_long e in
    (same, sym (drop_at (certificate_bytes c) t _ front) ∙ ap (drop (first_long (certificate_bytes d ++ u))) e ∙ drop_at (certificate_bytes d) u _ long)

some_bytes : (c : Certificate) (t : Bytes) → FitsCertificate c → certificate_bytes c ++ t ≡ [] → ⊥
some_bytes c t f e = omega (arith, ap length e, length-append (certificate_bytes c) t, certificate_long c f)

one_more : (most : ℕ) (s : Bytes) → 0 < length s → certificates_in (suc most) s ≡ certificate_in s ∷ certificates_in most (drop (first_long s) s)
unfolding certificates_in
one_more most [] l = absurd (omega arith)
one_more most (b ∷ s) l = refl

-- all that was written is read
pub certificates_read : (most : ℕ) (cs : List Certificate) → FitCertificates cs → length (flat_map certificate_bytes cs) ≤ most → certificates_in most (flat_map certificate_bytes cs) ≡ cs
unfolding certificates_in
certificates_read zero [] f l = refl
certificates_read (suc most) [] f l = refl
certificates_read zero (c ∷ cs) f l = absurd (omega (arith, length-append (certificate_bytes c) (flat_map certificate_bytes cs), certificate_long c f.0))
certificates_read (suc most) (c ∷ cs) f l =
    let rest = flat_map certificate_bytes cs in
    let long : length (certificate_bytes c ++ rest) ≡ length (certificate_bytes c) + length rest = length-append (certificate_bytes c) rest in
    let some = certificate_long c f.0 in
    let front = first_read c rest f.0 in
    let back : certificates_in most (drop (first_long (certificate_bytes c ++ rest)) (certificate_bytes c ++ rest)) ≡ cs =
    ap (certificates_in most) (drop_at (certificate_bytes c) rest _ (first_long_lem c rest f.0)) ∙ certificates_read most cs f.1 (omega (arith, long, some)) in
    one_more most (certificate_bytes c ++ rest) (omega (arith, long, some)) ∙ (λ i. front i ∷ back i)

-- behind a certificate stand certificates exactly if all are
pub behind_first : (s t : Bytes) (c : Certificate) → FitsCertificate c → s ≡ certificate_bytes c ++ t → (EntriesShape s → EntriesShape t) × (EntriesShape t → EntriesShape s)
behind_first s t c f e = (
  λ (cs, all). behind cs all,
  λ (cs, rest). (c ∷ cs, record { bytes = e ∙ ap (λ x. certificate_bytes c ++ x) rest.bytes; fits = (f, rest.fits) }),
)
  where
    behind : (cs : List Certificate) → Encodes (flat_map certificate_bytes) FitCertificates s cs → EntriesShape t
    behind [] all = absurd (some_bytes c t f (sym e ∙ all.bytes))
    behind (d ∷ ds) all =
        let same = first_same c d t (flat_map certificate_bytes ds) f all.fits.0 (sym e ∙ all.bytes) in
        (ds, record { bytes = same.1; fits = all.fits.1 })

pub entries_begin : (s : Bytes) → 0 < length s → EntriesShape s → FirstShape s
entries_begin s some ([], all) = absurd (omega (arith, ap length all.bytes))
entries_begin s some (c ∷ cs, all) = first_shaped s (c, flat_map certificate_bytes cs, all.fits.0, all.bytes)

pub no_entries : (s : Bytes) → length s ≡ 0 → EntriesShape s
no_entries s none = ([], record { bytes = nil_from_length s none; fits = tt })

-- what is read of a row of certificates are those
pub entries_read : (s : Bytes) → EntriesShape s → Encodes (flat_map certificate_bytes) FitCertificates s (certificates_in (length s) s)
entries_read s (cs, all) =
    let same : certificates_in (length s) s ≡ cs =
    ap (λ x. certificates_in (length x) x) all.bytes ∙ certificates_read (length (flat_map certificate_bytes cs)) cs all.fits (omega arith) in
    record { bytes = all.bytes ∙ ap (flat_map certificate_bytes) (sym same); fits = rw same all.fits }

-- behind the first certificate stand fewer bytes
pub fewer_behind : (s t : Bytes) (c : Certificate) → FitsCertificate c → s ≡ certificate_bytes c ++ t → length t < length s
fewer_behind s t c f e = omega (arith, ap length e, length-append (certificate_bytes c) t, certificate_long c f)

-- the first of all certificates, and those behind it
pub first_of_all : (s t : Bytes) (c : Certificate) → FitsCertificate c → s ≡ certificate_bytes c ++ t → EntriesShape s → EntriesShape t × (certificates_in (length s) s ≡ c ∷ certificates_in (length t) t)
first_of_all s t c f e ([], all) = absurd (some_bytes c t f (sym e ∙ all.bytes))
first_of_all s t c f e (d ∷ ds, all) =
    let same = first_same c d t (flat_map certificate_bytes ds) f all.fits.0 (sym e ∙ all.bytes) in
    let rest : EntriesShape t = (ds, record { bytes = same.1; fits = all.fits.1 }) in
    let every : certificates_in (length s) s ≡ d ∷ ds = ap (λ x. certificates_in (length x) x) all.bytes ∙ certificates_read (length (flat_map certificate_bytes (d ∷ ds))) (d ∷ ds) all.fits (omega arith) in
    let others : certificates_in (length t) t ≡ ds = ap (λ x. certificates_in (length x) x) same.1 ∙ certificates_read (length (flat_map certificate_bytes ds)) ds all.fits.1 (omega arith) in
    (rest, every ∙ (λ i. sym same.0 i ∷ sym others i))

pub none_left : (s : Bytes) → (Begins s → ⊥) → EntriesShape s → certificates_in (length s) s ≡ []
none_left s ended ([], all) = ap (λ x. certificates_in (length x) x) all.bytes ∙ certificates_read 0 [] tt (omega arith)
none_left s ended (c ∷ cs, all) = absurd (ended (c, flat_map certificate_bytes cs, all.fits.0, all.bytes))
