-- Digests read from their digits and written, one byte more at a time. Assumes nothing.
use Rattle.std.proofs.Common.{◌≡◌, ℕ, false, zero, suc, ◌+◌, ◌-◌, ◌*◌, ◌/◌, ◌%◌, ◌^◌, ◌<◌, ◌≢◌, List, [], ◌∷◌, ◌++◌, length, get_or, take, drop, set, ◌≤◌, ◌⊎◌, ◌&&◌, leb, ltb, inl, inr, codes, le-leb, le-ltb, sym, refl, ap, ◌∙◌, append_assoc, arith, get_or-set_other, get_or-set_same, below_more}
use Rattle.std.specs.Char.{digit_value, encode_utf8}
use Rattle.std.specs.Fmt.{digits, format_spec, padded_integral}
use Rattle.std.specs.Simd.{first_chunks}
use borrow.Author.Tests.{lt-leb}
use Rattle.std.proofs.lemmas.Bool.{cond-false}
use Rattle.std.proofs.lemmas.Fmt.{hex_byte}
use Rattle.std.proofs.lemmas.Str.{encode_ascii}
use Rattle.std.proofs.lemmas.List.{flat_map_more, take_more, get_or-take, get_or-drop}
use Rattle.std.proofs.lemmas.Bool.Decides.{nat_tests}
use Rattle.script.specs.Texts.{Pair, NoPair, HexReadsBack, byte_hex, digit_of, hex_of, shown_byte}

-- a byte of the i-th two of k twos
chunk_at : (word : List ℕ) (k i j : ℕ) (r : List ℕ) → i < k → j < 2 → get_or (get_or (first_chunks 2 k word) i r) j 0 ≡ get_or word (2 * i + j) 0
chunk_at word zero i j r l m = absurd (omega arith)
chunk_at word (suc k) zero j r l m = get_or-take 2 word j 0 m ∙ ap (λ n. get_or word n 0) (omega arith)
chunk_at word (suc k) (suc i) j r l m = let e : 2 * suc i + j ≡ 2 + (2 * i + j) = omega arith in rw e (chunk_at (drop 2 word) k i j r (omega arith) m ∙ get_or-drop 2 word (2 * i + j) 0)

-- what the i-th two writes
pub pair_at : (word : List ℕ) (k i : ℕ) (pairs : List (List ℕ)) (r : List ℕ) → pairs ≡ first_chunks 2 k word → i < k →
    (get_or (get_or pairs i r) 0 0 ≡ get_or word (2 * i) 0) × (get_or (get_or pairs i r) 1 0 ≡ get_or word (2 * i + 1) 0)
pair_at word k i pairs r e l =
    let is : (j : ℕ) → get_or (get_or pairs i r) j 0 ≡ get_or (get_or (first_chunks 2 k word) i r) j 0 = λ j. ap (λ ps. get_or (get_or ps i r) j 0) e in
    (is 0 ∙ chunk_at word k i 0 r l (omega arith) ∙ ap (λ n. get_or word n 0) (omega arith), is 1 ∙ chunk_at word k i 1 r l (omega arith))

-- a pair that is no two digits writes no byte
pub no_pair : (word pair bytes : List ℕ) (i : ℕ) → (get_or pair 0 0 ≡ get_or word (2 * i) 0) × (get_or pair 1 0 ≡ get_or word (2 * i + 1) 0) → NoPair pair → Pair word bytes i → ⊥
no_pair word pair bytes i at none is =
    let high = ap digit_value at.0 in
    let low = ap digit_value at.1 in
    none (get_or bytes i 0) (record { high = omega (arith, high, is.high); low = omega (arith, low, is.low); byte = omega (arith, is.byte, high, low) })

-- the byte that a pair writes stands at its place
pub pair_written : (word pair bytes : List ℕ) (i b : ℕ) → (get_or pair 0 0 ≡ get_or word (2 * i) 0) × (get_or pair 1 0 ≡ get_or word (2 * i + 1) 0) → Pair pair (b ∷ []) 0 →
    get_or bytes i 0 ≡ b → Pair word bytes i
pair_written word pair bytes i b at read e =
    let high = ap digit_value at.0 in
    let low = ap digit_value at.1 in
    record { high = omega (arith, high, read.high); low = omega (arith, low, read.low); byte = omega (arith, e, read.byte, high, low) }

pub pair_more : (word bytes pair : List ℕ) (i b : ℕ) → i < length bytes → ((k : ℕ) → k < i → Pair word bytes k) →
    (get_or pair 0 0 ≡ get_or word (2 * i) 0) × (get_or pair 1 0 ≡ get_or word (2 * i + 1) 0) → Pair pair (b ∷ []) 0 → (k : ℕ) → k < i + 1 → Pair word (set bytes i b) k
pair_more word bytes pair i b l below at read =
    below_more (Pair word (set bytes i b)) i
    (λ k lt.
    let ne : k ≢ i = omega arith in
    let old = below k lt in
    record { high = old.high; low = old.low; byte = rw get_or-set_other old.byte })
    (pair_written word pair (set bytes i b) i b at read (rw get_or-set_same refl))

digit_small : (n : ℕ) → n < 16 → digit_of n < 128
digit_small n h = grind (arith, nat_tests)

-- one byte more, written by its two digits
pub hex_more : (bs : List ℕ) (i high low : ℕ) → i < length bs → get_or bs i 0 < 256 → high ≡ digit_of (get_or bs i 0 / 16) → low ≡ digit_of (get_or bs i 0 % 16) →
    (hex_of (take i bs) ++ encode_utf8 high) ++ encode_utf8 low ≡ hex_of (take (i + 1) bs)
hex_more bs i high low within small h l =
    let b = get_or bs i 0 in
    let first : encode_utf8 high ≡ digit_of (b / 16) ∷ [] = ap encode_utf8 h ∙ encode_ascii (digit_of (b / 16)) (digit_small (b / 16) (omega (arith, small))) in
    let second : encode_utf8 low ≡ digit_of (b % 16) ∷ [] = ap encode_utf8 l ∙ encode_ascii (digit_of (b % 16)) (digit_small (b % 16) (omega arith)) in
    append_assoc (hex_of (take i bs)) (encode_utf8 high) (encode_utf8 low) ∙
    (λ j. hex_of (take i bs) ++ (first j ++ second j)) ∙
    flat_map_more byte_hex [] (take i bs) b ∙
    ap hex_of (sym (take_more bs i 0 within))

pub shown_escaped : (least b : ℕ) → ((least ≤ b) × (127 ≤ b)) ⊎ (b < least) → b < 256 →
    codes "\\x" ++ padded_integral (format_spec 32 0 4 2 (2 ^ 64 - 1)) false [] (digits 16 false b) ≡ shown_byte least b
shown_escaped least b outside small = ap (λ t. codes "\\x" ++ t) (hex_byte false b small) ∙ sym (cond-false (leb least b && ltb b 127) _ _ (unprintable outside))
  where
    unprintable : ((least ≤ b) × (127 ≤ b)) ⊎ (b < least) → (leb least b && ltb b 127) ≡ false
    unprintable (inl p) = rw (le-leb least b p.0, le-ltb b 127 p.1)
    unprintable (inr p) = rw (lt-leb least b p)

digit_read : (n : ℕ) → n < 16 → digit_value (digit_of n) ≡ n
digit_read n h = grind (arith, nat_tests)

hex_long : (bs : List ℕ) → length (hex_of bs) ≡ 2 * length bs
hex_long [] = refl
hex_long (b ∷ bs) = omega (arith, hex_long bs)

hex_high : (bs : List ℕ) (i : ℕ) → i < length bs → get_or (hex_of bs) (2 * i) 0 ≡ digit_of (get_or bs i 0 / 16)
hex_high [] i l = absurd (omega arith)
hex_high (b ∷ bs) zero l = refl
hex_high (b ∷ bs) (suc i) l = let e : 2 * suc i ≡ suc (suc (2 * i)) = omega arith in rw e (hex_high bs i (omega arith))

hex_low : (bs : List ℕ) (i : ℕ) → i < length bs → get_or (hex_of bs) (2 * i + 1) 0 ≡ digit_of (get_or bs i 0 % 16)
hex_low [] i l = absurd (omega arith)
hex_low (b ∷ bs) zero l = refl
hex_low (b ∷ bs) (suc i) l = let e : 2 * suc i + 1 ≡ suc (suc (2 * i + 1)) = omega arith in rw e (hex_low bs i (omega arith))

pub hex_reads_back : HexReadsBack
hex_reads_back d long small = record {
  long = omega (arith, hex_long d.bytes);
  sized = long;
  pairs = λ i l.
      let b = get_or d.bytes i 0 in
      let within : i < length d.bytes = omega arith in
      let high : digit_value (get_or (hex_of d.bytes) (2 * i) 0) ≡ b / 16 = ap digit_value (hex_high _ i within) ∙ digit_read (b / 16) (omega (arith, small i)) in
      let low : digit_value (get_or (hex_of d.bytes) (2 * i + 1) 0) ≡ b % 16 = ap digit_value (hex_low _ i within) ∙ digit_read (b % 16) (omega arith) in
      record { high = omega (arith, high, small i); low = omega (arith, low); byte = omega (arith, high, low) };
}
