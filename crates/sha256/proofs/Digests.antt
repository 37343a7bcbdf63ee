-- The length and the bytes of a digest.
use Rattle.std.proofs.Common.{ℕ, zero, suc, ◌/◌, ◌<◌, List, [], ◌∷◌, ◌++◌, length, get_or, refl, arith}
use Rattle.std.specs.List.{flat_map}
use Rattle.sha256.specs.Standard.{Words, H0, padded, blocks, hashed, bytes32, output, digest}
use Rattle.sha256.specs.Theorems.{DigestLong, DigestBytes}

pub digest_long : DigestLong
unfolding digest output
digest_long m = refl

word_below : (x : ℕ) (bs : List ℕ) → ((i : ℕ) → get_or bs i 0 < 256) → (i : ℕ) → get_or (bytes32 x ++ bs) i 0 < 256
word_below x bs h zero = omega arith
word_below x bs h (suc zero) = omega arith
word_below x bs h (suc (suc zero)) = omega arith
word_below x bs h (suc (suc (suc zero))) = omega arith
word_below x bs h (suc (suc (suc (suc i)))) = h i

words_below : (ws : List ℕ) (i : ℕ) → get_or (flat_map bytes32 ws) i 0 < 256
words_below [] i = omega arith
words_below (w ∷ ws) i = word_below w (flat_map bytes32 ws) (words_below ws) i

output_below : (s : Words) (i : ℕ) → get_or (output s) i 0 < 256
unfolding output
output_below s = words_below (s.a ∷ s.b ∷ s.c ∷ s.d ∷ s.e ∷ s.f ∷ s.g ∷ s.h ∷ [])

pub digest_bytes : DigestBytes
unfolding digest
digest_bytes m = output_below (hashed H0 (blocks (length (padded m) / 64) (padded m)))
