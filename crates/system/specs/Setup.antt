-- Who is honest, how things are coded, and what is asked of the coding. Assumes nothing.
use Rattle.std.specs.Prelude.{◌≡◌, ℕ, ◌^◌, ◌<◌, ◌≤◌, Bool, true, List, length}
use Rattle.merkle_theory.specs.Bytes.{texts}
use Rattle.merkle_theory.specs.Texts.{Collision}
use Rattle.model.specs.Objects.{Certificate}
use Rattle.model.specs.Rules.{Rules}
use Rattle.wire_theory.specs.Bytes.{Bytes}
use Rattle.wire_theory.specs.Messages.{Settings}
use Rattle.parties.specs.Coding.{Coding}

pub record Setup : Type 0 where
  pub honest_authority : ℕ → Bool
  pub honest_log : ℕ → Bool
  pub settings : Settings
  pub coding : Coding
  -- a certificate that bytes can be read as
  pub readable : Certificate → Bool
  -- the name that a monitor looks for, and the random bytes that an authority is given
  pub watched : ℕ → Bytes
  pub supplied : ℕ → Bytes

abbrev pub rules_of : Setup → Rules
rules_of S = record
    { honest_authority = S.honest_authority; honest_log = S.honest_log; mmd = S.settings.mmd; freshness = S.settings.freshness; lifetime = S.settings.lifetime }

-- what is asked of the coding: digests of 32 bytes; two certificates have two texts, and two responses; and there is a merge delay
pub record Sound (S : Setup) : Type 0 where
  pub long : (t : Bytes) → length (S.coding.hash t) ≡ 32
  pub certificates_apart : (c d : Certificate) → S.readable c ≡ true → S.readable d ≡ true → S.coding.text c ≡ S.coding.text d → c ≡ d
  pub responses_apart : (i j : ℕ) (m n k l : Bytes) → i < 2 ^ 64 → j < 2 ^ 64 → length m ≡ 16 → length n ≡ 16 → length k ≡ 32 → length l ≡ 32 →
      S.coding.response_text i m k ≡ S.coding.response_text j n l → (i ≡ j) × (m ≡ n) × (k ≡ l)
  pub delayed : 1 ≤ S.settings.mmd

-- two different texts among these have one digest
abbrev pub Collides : Setup → List Bytes → Type 0
Collides S ts = Collision (texts S.coding.hash) ts
