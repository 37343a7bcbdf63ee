-- What is proved of the coding in use. Assumes nothing.
use Rattle.std.specs.Prelude.{◌≡◌, ℕ, ◌≤◌, Bool, true, ◌↔◌, [], ◌∷◌, ◌++◌, length, Some, codes, nat_eq}
use Rattle.sha256.specs.Standard.{digest}
use Rattle.model.specs.Objects.{Certificate}
use Rattle.wire_theory.specs.Bytes.{Bytes}
use Rattle.wire_theory.specs.Claims.{Signing, certified, promised, headed, listed, revoked, bare}
use Rattle.wire_theory.specs.Messages.{Settings, FitsCertificate}
use Rattle.parties.specs.Coding.{Coding}
use Rattle.system.specs.Setup.{Setup, Sound}
use Rattle.real_coding.specs.Real.{Scheme, real_coding, fits_certificate, real_setup}

-- it meets what is asked of a coding, whatever the scheme, the settings, the honest ones, the watched names and the random bytes, if there is a merge delay
abbrev pub RealIsSound : Type 0
RealIsSound =
    (G : Scheme) (settings : Settings) (honest_authority honest_log : ℕ → Bool) (watched supplied : ℕ → Bytes) →
    1 ≤ settings.mmd → Sound (real_setup G settings honest_authority honest_log watched supplied)

-- the test for readable certificates is passed by those that are well-formed, and by no others
abbrev pub ReadableIsWellFormed : Type 0
ReadableIsWellFormed = (c : Certificate) → (fits_certificate c ≡ true) ↔ FitsCertificate c

-- the seal of whatever is signed; a revocation's is by the key
abbrev pub seal_of : Coding → Bytes → Signing → Bytes
seal_of K key (certified c) = K.seal_certificate c
seal_of K key (promised p) = K.seal_sct p
seal_of K key (headed h) = K.seal_head h
seal_of K key (listed b) = K.seal_list b
seal_of K key (revoked authority serial) = K.seal_revoke authority serial key

-- two of one kind that differ only in their seals are given the same seal
abbrev pub SealsIgnoreSeals : Type 0
SealsIgnoreSeals = (G : Scheme) (key : Bytes) (x y : Signing) → bare x ≡ bare y → seal_of (real_coding G) key x ≡ seal_of (real_coding G) key y

-- ---- one such setup

-- a digest, twice, in place of a signature: anyone can make it, so it is no scheme to use. Everybody's key is known
abbrev pub stand_in_scheme : Scheme
stand_in_scheme =
    record {
      sign = λ key text. digest (key ++ text) ++ digest (key ++ text);
      authority_key = λ authority. Some (digest (codes "authority" ++ (authority ∷ [])));
      log_key = λ log. Some (digest (codes "log" ++ (log ∷ [])));
    }

abbrev pub stand_in_settings : Settings
stand_in_settings = record { mmd = 2; freshness = 4; lifetime = 100 }

-- authority 1 and log 1 are honest, and each authority has random bytes for two nonces
abbrev pub stand_in_setup : Setup
stand_in_setup = real_setup stand_in_scheme stand_in_settings (nat_eq 1) (nat_eq 1) (λ monitor. codes "Astrid") (λ authority. digest (authority ∷ []))

abbrev pub StandInIsSound : Type 0
StandInIsSound = Sound stand_in_setup

-- its signatures are as long as those of well-formed messages
abbrev pub StandInSealsFit : Type 0
StandInSealsFit = (key text : Bytes) → length (stand_in_scheme.sign key text) ≡ 64
