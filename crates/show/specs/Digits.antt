-- Bytes in hexadecimal, as they are given. Assumes nothing.
use Rattle.std.specs.Prelude.{◌≡◌, ℕ, ◌*◌, ◌<◌, List, length}
use Rattle.script.specs.Texts.{Pair}

-- two digits for each byte
pub record HexBytes (digits bytes : List ℕ) : Type 0 where
  pub long : length digits ≡ 2 * length bytes
  pub pairs : (i : ℕ) → i < length bytes → Pair digits bytes i

abbrev pub NoBytes : List ℕ → Type 0
NoBytes digits = (bytes : List ℕ) → HexBytes digits bytes → ⊥
