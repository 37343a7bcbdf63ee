-- How numbers and digests are written in a script. Assumes nothing.
use Rattle.std.specs.Prelude.{◌≡◌, ℕ, ◌+◌, ◌*◌, ◌/◌, ◌%◌, ◌^◌, ◌<◌, cond, ◌&&◌, List, [], ◌∷◌, ◌++◌, length, codes, nat_le, nat_lt, slice_index, slice_index_or}
use Rattle.std.specs.List.{flat_map}
use Rattle.std.specs.Str.Parse.{IsNumeral, digits_value}
use Rattle.std.specs.Char.{digit_value}
use Rattle.merkle.specs.declared.digest.Digest.{Digest}

-- the word is decimal digits, one or more, that write n, below 2^64
pub record Decimal (word : List ℕ) (n : ℕ) : Type 0 where
  pub digits : IsNumeral 10 word
  pub number : digits_value 10 word ≡ n
  pub small : n < 2 ^ 64

abbrev pub NoDecimal : List ℕ → Type 0
NoDecimal word = (n : ℕ) → Decimal word n → ⊥

-- the i-th byte is written by the i-th two hexadecimal digits
pub record Pair (word bytes : List ℕ) (i : ℕ) : Type 0 where
  pub high : digit_value (slice_index word (2 * i)) < 16
  pub low : digit_value (slice_index word (2 * i + 1)) < 16
  pub byte : slice_index_or bytes i 0 ≡ 16 * digit_value (slice_index word (2 * i)) + digit_value (slice_index word (2 * i + 1))

-- the two bytes are no such digits
abbrev pub NoPair : List ℕ → Type 0
NoPair pair = (b : ℕ) → Pair pair (b ∷ []) 0 → ⊥

-- the word is two hexadecimal digits for each of the 32 bytes of d
pub record Hex (word : List ℕ) (d : Digest) : Type 0 where
  pub long : length word ≡ 64
  pub sized : length d.bytes ≡ 32
  pub pairs : (i : ℕ) → i < 32 → Pair word d.bytes i

abbrev pub NoHex : List ℕ → Type 0
NoHex word = (d : Digest) → Hex word d → ⊥

-- a number below 16 as a digit, in lower case
abbrev pub digit_of : ℕ → ℕ
digit_of n = cond (nat_lt n 10) (48 + n) (87 + n)

-- a byte, and bytes, in hexadecimal
abbrev pub byte_hex : ℕ → List ℕ
byte_hex b = digit_of (b / 16) ∷ (digit_of (b % 16) ∷ [])

abbrev pub hex_of : List ℕ → List ℕ
hex_of bs = flat_map byte_hex bs

-- a byte as it can be shown: printable ASCII from `least` on as it is, others as \xNN
abbrev pub shown_byte : ℕ → ℕ → List ℕ
shown_byte least b = cond (nat_le least b && nat_lt b 127) (b ∷ []) (codes "\\x" ++ byte_hex b)

-- what is written of a digest is read as that digest
abbrev pub HexReadsBack : Type 0
HexReadsBack = (d : Digest) → length d.bytes ≡ 32 → ((i : ℕ) → slice_index d.bytes i < 256) → Hex (hex_of d.bytes) d
