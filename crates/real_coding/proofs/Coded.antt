-- The coding in use is sound, and its seals are of all but the seal. Assumes nothing.
use Rattle.std.proofs.Common.{◌≡◌, ℕ, ◌^◌, ◌<◌, true, ◌∷◌, ◌++◌, length, take, drop, sym, refl, ap, ◌∙◌, arith}
use Rattle.std.proofs.lemmas.List.{length-append, take_at, drop_at}
use Rattle.std.proofs.lemmas.Bool.{and_parts, and_from, ltb-true, leb-true, eqb-true, lt-ltb, le-leb, eq-eqb}
use Rattle.sha256.specs.Standard.{digest}
use Rattle.sha256.proofs.Digests.{digest_long}
use Rattle.model.specs.Objects.{Certificate}
use Rattle.wire_theory.specs.Bytes.{Bytes, big}
use Rattle.wire_theory.specs.Claims.{Signing, certified, promised, headed, listed, revoked, bare}
use Rattle.wire_theory.specs.Messages.{FitsCertificate, certificate_bytes, signed_certificate, signed_sct, signed_head, signed_list}
use Rattle.wire_theory.proofs.Decoded.{leaf_texts_apart}
use Rattle.wire_theory.proofs.Numbers.{length-big, big_same}
use Rattle.real_coding.specs.Claims.{RealIsSound, ReadableIsWellFormed, seal_of, SealsIgnoreSeals, stand_in_scheme, stand_in_settings, stand_in_setup, StandInIsSound, StandInSealsFit}
use Rattle.real_coding.specs.Real.{Scheme, real_coding, fits_certificate}

-- ---- certificates

readable_fits : (c : Certificate) → fits_certificate c ≡ true → FitsCertificate c
unfolding fits_certificate
readable_fits c e =
    let (issuer, e1) = and_parts _ _ e in
    let (name, e2) = and_parts _ _ e1 in
    let (key, e3) = and_parts _ _ e2 in
    let (serial, e4) = and_parts _ _ e3 in
    let (expiry, seal) = and_parts _ _ e4 in
    record {
      issuer = ltb-true _ _ issuer;
      name = leb-true _ _ name;
      key = eqb-true _ _ key;
      serial = ltb-true _ _ serial;
      expiry = ltb-true _ _ expiry;
      seal = eqb-true _ _ seal;
    }

fits_readable : (c : Certificate) → FitsCertificate c → fits_certificate c ≡ true
unfolding fits_certificate
fits_readable c f =
    and_from _ _ (lt-ltb _ _ f.issuer) (and_from _ _ (le-leb _ _ f.name) (and_from _ _ (eq-eqb _ _ f.key)
    (and_from _ _ (lt-ltb _ _ f.serial) (and_from _ _ (lt-ltb _ _ f.expiry) (eq-eqb _ _ f.seal)))))

pub readable_is_well_formed : ReadableIsWellFormed
readable_is_well_formed c = (readable_fits c, fits_readable c)

certificates_apart : (c d : Certificate) → fits_certificate c ≡ true → fits_certificate d ≡ true → certificate_bytes c ≡ certificate_bytes d → c ≡ d
certificates_apart c d f g e = leaf_texts_apart c d (readable_fits c f) (readable_fits d g) (ap (λ s. 0 ∷ s) e)

-- ---- responses

-- bytes that begin with parts of one length have the same parts
parts_same : (w : ℕ) (a b s t : Bytes) → length a ≡ w → length b ≡ w → a ++ s ≡ b ++ t → (a ≡ b) × (s ≡ t)
parts_same w a b s t la lb e = (sym (take_at a s w la) ∙ ap (take w) e ∙ take_at b t w lb, sym (drop_at a s w la) ∙ ap (drop w) e ∙ drop_at b t w lb)

responses_apart : (i j : ℕ) (m n k l : Bytes) → i < 2 ^ 64 → j < 2 ^ 64 → length m ≡ 16 → length n ≡ 16 → big 8 i ++ (m ++ k) ≡ big 8 j ++ (n ++ l) → (i ≡ j) × (m ≡ n) × (k ≡ l)
responses_apart i j m n k l fi fj lm ln e =
    let serial = parts_same 8 (big 8 i) (big 8 j) (m ++ k) (n ++ l) (length-big 8 i) (length-big 8 j) e in
    let rest = parts_same 16 m n k l lm ln serial.1 in
    (big_same 8 i j fi fj serial.0, rest.0, rest.1)

pub real_is_sound : RealIsSound
real_is_sound G settings honest_authority honest_log watched supplied delayed =
    record {
      long = digest_long;
      certificates_apart = certificates_apart;
      responses_apart = λ i j m n k l fi fj lm ln lk ll e. responses_apart i j m n k l fi fj lm ln e;
      delayed = delayed;
    }

pub stand_in_is_sound : StandInIsSound
stand_in_is_sound =
    real_is_sound stand_in_scheme stand_in_settings stand_in_setup.honest_authority stand_in_setup.honest_log stand_in_setup.watched stand_in_setup.supplied (omega arith)

pub stand_in_seals_fit : StandInSealsFit
stand_in_seals_fit key text =
    let half = digest (key ++ text) in
    omega (arith, length-append half half, digest_long (key ++ text))

-- ---- seals

-- the seal is that of the same without its signature
seal_of_bare : (G : Scheme) (key : Bytes) (x : Signing) → seal_of (real_coding G) key x ≡ seal_of (real_coding G) key (bare x)
unfolding signed_certificate signed_sct signed_head signed_list
seal_of_bare G key (certified c) = refl
seal_of_bare G key (promised p) = refl
seal_of_bare G key (headed h) = refl
seal_of_bare G key (listed b) = refl
seal_of_bare G key (revoked authority serial) = refl

pub seals_ignore_seals : SealsIgnoreSeals
seals_ignore_seals G key x y e = seal_of_bare G key x ∙ ap (seal_of (real_coding G) key) e ∙ sym (seal_of_bare G key y)
