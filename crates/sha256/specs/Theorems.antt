-- Theorems about the standard's digests.
use Rattle.std.specs.Prelude.{◌≡◌, ℕ, ◌<◌, List, length, slice_index}
use Rattle.sha256.specs.Standard.{digest}

-- every digest, of whatever message, has 32 bytes
abbrev pub DigestLong : Type 0
DigestLong = (m : List ℕ) → length (digest m) ≡ 32

-- and they are bytes
abbrev pub DigestBytes : Type 0
DigestBytes = (m : List ℕ) (i : ℕ) → slice_index (digest m) i < 256
