-- What a hasher holds of the bytes that were fed to it.
use Rattle.std.specs.Prelude.{◌≡◌, ℕ, ◌*◌, ◌%◌, ◌^◌, ◌<◌, List, ◌++◌, length, take}
use Rattle.sha256.specs.Standard.{H0, blocks, hashed}
use Rattle.sha256.specs.declared.hasher.Hasher.{Hasher}

-- m is what was fed: whole blocks, and fewer than 64 bytes more
pub record Fed (m : List ℕ) (s : Hasher) : Type 0 where
  pub count : s.count ≡ length m % 2 ^ 64
  pub n : ℕ
  pub whole : List ℕ
  pub rest : List ℕ
  pub parts : m ≡ whole ++ rest
  pub long : length whole ≡ 64 * n
  pub few : length rest < 64
  pub words : s.words ≡ hashed H0 (blocks n whole)
  pub kept : take (length rest) s.buffer ≡ rest
