-- The coding in use: SHA-256, the bytes of messages, and signatures of any scheme. Assumes nothing.
use Rattle.std.specs.Prelude.{ℕ, ◌^◌, Bool, ◌&&◌, [], ◌++◌, length, Some, None, Option, ◌==◌, nat_le, nat_lt}
use Rattle.sha256.specs.Standard.{digest}
use Rattle.model.specs.Objects.{Certificate}
use Rattle.wire_theory.specs.Bytes.{Bytes, big}
use Rattle.wire_theory.specs.Messages.{Settings, certificate_bytes, signed_certificate, signed_sct, signed_head, signed_list, signed_revoke}
use Rattle.parties.specs.Coding.{Coding}
use Rattle.parties.specs.Steps.{is_some}
use Rattle.system.specs.Setup.{Setup}

pub record Scheme : Type 0 where
  -- the one signature that a public key, given first, accepts for a text
  pub sign : Bytes → Bytes → Bytes
  -- the public keys that are known, by the numbers of authorities and logs
  pub authority_key : ℕ → Option Bytes
  pub log_key : ℕ → Option Bytes

-- where the key isn't known there is no signature
abbrev pub signed_under : Scheme → Option Bytes → Bytes → Bytes
signed_under G None text = []
signed_under G (Some key) text = G.sign key text

abbrev pub real_coding : Scheme → Coding
real_coding G =
    record {
      hash = digest;
      text = certificate_bytes;
      response_text = λ serial nonce key. big 8 serial ++ (nonce ++ key);
      knows_authority = λ authority. is_some (G.authority_key authority);
      knows_log = λ log. is_some (G.log_key log);
      seal_certificate = λ c. signed_under G (G.authority_key c.issuer) (signed_certificate c);
      seal_sct = λ p. signed_under G (G.log_key p.log) (signed_sct p);
      seal_head = λ h. signed_under G (G.log_key h.log) (signed_head h);
      seal_list = λ b. signed_under G (G.authority_key b.authority) (signed_list b);
      seal_revoke = λ authority serial key. G.sign key (signed_revoke authority serial);
    }

-- a certificate that bytes can be read as: its numbers and its parts have room in them
unfoldable pub fits_certificate : Certificate → Bool
fits_certificate c =
    nat_lt c.issuer 256
    && (nat_le (length c.name) 64 && (length c.key == 32 && (nat_lt c.serial (2 ^ 64) && (nat_lt c.expiry (2 ^ 64) && length c.seal == 64))))

-- with whoever is honest, whatever is watched, and any random bytes
abbrev pub real_setup : Scheme → Settings → (ℕ → Bool) → (ℕ → Bool) → (ℕ → Bytes) → (ℕ → Bytes) → Setup
real_setup G settings honest_authority honest_log watched supplied =
    record {
      honest_authority = honest_authority;
      honest_log = honest_log;
      settings = settings;
      coding = real_coding G;
      readable = fits_certificate;
      watched = watched;
      supplied = supplied;
    }
