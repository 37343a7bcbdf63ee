-- SHA-256 as RFC 6234 defines it, with its names, for messages of whole bytes.
-- A word is a number below 2 ^ 32, a byte one below 256, and a message a list of bytes.
use Rattle.std.specs.Prelude.{ℕ, zero, suc, ◌+◌, ◌-◌, ◌*◌, ◌/◌, ◌%◌, ◌^◌, List, [], ◌∷◌, ◌++◌, length, take, drop, replicate, bit_and, bit_or, bit_xor, slice_index, slice_index_or}
use Rattle.sha256.specs.declared.words.Words as declared

-- the words a to h
abbrev pub Words : Type 0
Words = declared.Words ℕ

-- ---- operations on words

infixl 6 ◌⊞◌
infixl 5 ◌AND◌
infixl 4 ◌XOR◌
-- addition modulo 2 ^ 32
abbrev pub ◌⊞◌ : ℕ → ℕ → ℕ
a ⊞ b = (a + b) % 2 ^ 32

abbrev pub ◌AND◌ : ℕ → ℕ → ℕ
x AND y = bit_and x y

abbrev pub ◌XOR◌ : ℕ → ℕ → ℕ
x XOR y = bit_xor x y

abbrev pub NOT : ℕ → ℕ
NOT x = 2 ^ 32 - 1 - x

-- the word moved right by n bits, and turned right by n bits
abbrev pub SHR : ℕ → ℕ → ℕ
SHR n x = x / 2 ^ n

abbrev pub ROTR : ℕ → ℕ → ℕ
ROTR n x = bit_or (x / 2 ^ n) (x * 2 ^ (32 - n) % 2 ^ 32)

-- ---- the six functions

abbrev pub CH : ℕ → ℕ → ℕ → ℕ
CH x y z = (x AND y) XOR (NOT x AND z)

abbrev pub MAJ : ℕ → ℕ → ℕ → ℕ
MAJ x y z = (x AND y) XOR (x AND z) XOR (y AND z)

abbrev pub BSIG0 : ℕ → ℕ
BSIG0 x = ROTR 2 x XOR ROTR 13 x XOR ROTR 22 x

abbrev pub BSIG1 : ℕ → ℕ
BSIG1 x = ROTR 6 x XOR ROTR 11 x XOR ROTR 25 x

abbrev pub SSIG0 : ℕ → ℕ
SSIG0 x = ROTR 7 x XOR ROTR 18 x XOR SHR 3 x

abbrev pub SSIG1 : ℕ → ℕ
SSIG1 x = ROTR 17 x XOR ROTR 19 x XOR SHR 10 x

-- ---- the constants

-- the first 32 bits of the fractional parts of the cube roots of the first 64 primes
unfoldable pub K : List ℕ
K =
    0x428a2f98 ∷ 0x71374491 ∷ 0xb5c0fbcf ∷ 0xe9b5dba5 ∷ 0x3956c25b ∷ 0x59f111f1 ∷ 0x923f82a4 ∷ 0xab1c5ed5
    ∷ 0xd807aa98 ∷ 0x12835b01 ∷ 0x243185be ∷ 0x550c7dc3 ∷ 0x72be5d74 ∷ 0x80deb1fe ∷ 0x9bdc06a7 ∷ 0xc19bf174
    ∷ 0xe49b69c1 ∷ 0xefbe4786 ∷ 0x0fc19dc6 ∷ 0x240ca1cc ∷ 0x2de92c6f ∷ 0x4a7484aa ∷ 0x5cb0a9dc ∷ 0x76f988da
    ∷ 0x983e5152 ∷ 0xa831c66d ∷ 0xb00327c8 ∷ 0xbf597fc7 ∷ 0xc6e00bf3 ∷ 0xd5a79147 ∷ 0x06ca6351 ∷ 0x14292967
    ∷ 0x27b70a85 ∷ 0x2e1b2138 ∷ 0x4d2c6dfc ∷ 0x53380d13 ∷ 0x650a7354 ∷ 0x766a0abb ∷ 0x81c2c92e ∷ 0x92722c85
    ∷ 0xa2bfe8a1 ∷ 0xa81a664b ∷ 0xc24b8b70 ∷ 0xc76c51a3 ∷ 0xd192e819 ∷ 0xd6990624 ∷ 0xf40e3585 ∷ 0x106aa070
    ∷ 0x19a4c116 ∷ 0x1e376c08 ∷ 0x2748774c ∷ 0x34b0bcb5 ∷ 0x391c0cb3 ∷ 0x4ed8aa4a ∷ 0x5b9cca4f ∷ 0x682e6ff3
    ∷ 0x748f82ee ∷ 0x78a5636f ∷ 0x84c87814 ∷ 0x8cc70208 ∷ 0x90befffa ∷ 0xa4506ceb ∷ 0xbef9a3f7 ∷ 0xc67178f2
    ∷ []

-- the first hash value: the first 32 bits of the fractional parts of the square roots of the first 8 primes
unfoldable pub H0 : Words
H0 =
    record {
      a = 0x6a09e667;
      b = 0xbb67ae85;
      c = 0x3c6ef372;
      d = 0xa54ff53a;
      e = 0x510e527f;
      f = 0x9b05688c;
      g = 0x1f83d9ab;
      h = 0x5be0cd19;
    }

-- ---- padding

-- n modulo 2 ^ 64 as eight bytes, the highest first
abbrev pub bytes64 : ℕ → List ℕ
bytes64 n =
    (n / 2 ^ 56 % 256) ∷ (n / 2 ^ 48 % 256) ∷ (n / 2 ^ 40 % 256) ∷ (n / 2 ^ 32 % 256)
    ∷ (n / 2 ^ 24 % 256) ∷ (n / 2 ^ 16 % 256) ∷ (n / 2 ^ 8 % 256) ∷ (n % 256) ∷ []

-- the fewest zero bytes after which eight bytes are left in a block, where n bytes and one stand before them
abbrev pub zeros : ℕ → ℕ
zeros n = (119 - n % 64) % 64

-- a message, a bit 1, the zeros, and the message's length in bits. The document's messages have fewer than 2 ^ 64 bits;
-- a longer one's length is taken modulo that
unfoldable pub padded : List ℕ → List ℕ
padded m = m ++ 0x80 ∷ replicate (zeros (length m)) 0 ++ bytes64 (8 * length m)

-- ---- the hash of a block

-- the word at a place of a block, its highest byte first
abbrev pub word_at : List ℕ → ℕ → ℕ
word_at bs t = slice_index bs (4 * t) * 2 ^ 24 + slice_index bs (4 * t + 1) * 2 ^ 16 + slice_index bs (4 * t + 2) * 2 ^ 8 + slice_index bs (4 * t + 3)

-- the first n words of a block
unfoldable pub first_words : ℕ → List ℕ → List ℕ
first_words zero bs = []
first_words (suc n) bs = first_words n bs ++ word_at bs n ∷ []

-- the first 16 + n words of the message schedule: from t = 16 on, W(t) is made of W(t - 2), W(t - 7), W(t - 15) and W(t - 16)
unfoldable pub schedule : ℕ → List ℕ → List ℕ
schedule zero bs = first_words 16 bs
schedule (suc n) bs =
    let W = schedule n bs in
    W ++ (SSIG1 (slice_index W (n + 14)) ⊞ slice_index_or W (n + 9) 0 ⊞ SSIG0 (slice_index W (n + 1)) ⊞ slice_index_or W n 0) ∷ []

-- one round, with its constant k and its word w of the schedule
unfoldable pub round : Words → ℕ → ℕ → Words
round s k w =
    let T1 = s.h ⊞ BSIG1 s.e ⊞ CH s.e s.f s.g ⊞ k ⊞ w in
    let T2 = BSIG0 s.a ⊞ MAJ s.a s.b s.c in
    record { a = T1 ⊞ T2; b = s.a; c = s.b; d = s.c; e = s.d ⊞ T1; f = s.e; g = s.f; h = s.g }

-- the first n rounds under the schedule W
unfoldable pub rounds : ℕ → List ℕ → Words → Words
rounds zero W s = s
rounds (suc n) W s = round (rounds n W s) (slice_index K n) (slice_index W n)

abbrev pub plus : Words → Words → Words
plus s t =
    record {
      a = s.a ⊞ t.a;
      b = s.b ⊞ t.b;
      c = s.c ⊞ t.c;
      d = s.d ⊞ t.d;
      e = s.e ⊞ t.e;
      f = s.f ⊞ t.f;
      g = s.g ⊞ t.g;
      h = s.h ⊞ t.h;
    }

-- the hash value after one more block
unfoldable pub compress : Words → List ℕ → Words
compress H bs = plus H (rounds 64 (schedule 48 bs) H)

-- ---- the hash of a message

-- n blocks of 64 bytes
unfoldable pub blocks : ℕ → List ℕ → List (List ℕ)
blocks zero bs = []
blocks (suc n) bs = take 64 bs ∷ blocks n (drop 64 bs)

unfoldable pub hashed : Words → List (List ℕ) → Words
hashed H [] = H
hashed H (b ∷ bs) = hashed (compress H b) bs

-- a word as four bytes, the highest first
abbrev pub bytes32 : ℕ → List ℕ
bytes32 x = (x / 2 ^ 24 % 256) ∷ (x / 2 ^ 16 % 256) ∷ (x / 2 ^ 8 % 256) ∷ (x % 256) ∷ []

unfoldable pub output : Words → List ℕ
output s =
    bytes32 s.a ++ bytes32 s.b ++ bytes32 s.c ++ bytes32 s.d
    ++ bytes32 s.e ++ bytes32 s.f ++ bytes32 s.g ++ bytes32 s.h

unfoldable pub digest : List ℕ → List ℕ
digest m = let p = padded m in output (hashed H0 (blocks (length p / 64) p))
