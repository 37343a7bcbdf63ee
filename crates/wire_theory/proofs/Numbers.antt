-- Numbers written as bytes and read again. Assumes nothing.
use Rattle.std.proofs.Common.{◌≡◌, ℕ, zero, suc, ◌+◌, ◌*◌, ◌/◌, ◌%◌, ◌^◌, ◌<◌, ◌≤◌, [], ◌∷◌, length, get_or, take, sym, refl, ap, ◌∙◌, mod-eq_of_lt, mul_assoc, mul_comm, add_comm, pow-suc, div-one, arith}
use native.Mathlib.Nat.{add-mul-div_right, add-mul-mod_self_right, mod-one}
use lib.Arith.{digits_lt, digits_div, mod-mul}
use Rattle.std.proofs.lemmas.List.{drop_more}
use Rattle.wire_theory.specs.Bytes.{Bytes, big, number, part, Written}

-- each is a byte
abbrev pub Small : Bytes → Type 0
Small [] = Unit {0}
Small (b ∷ bs) = (b < 256) × Small bs

pub pow256_pos : (w : ℕ) → 0 < 256 ^ w
pow256_pos zero = omega arith
pow256_pos (suc w) = rw (pow-suc 256 w) (omega (arith, pow256_pos w))

pub length-big : (w n : ℕ) → length (big w n) ≡ w
unfolding big
length-big zero n = refl
length-big (suc w) n = ap suc (length-big w n)

pub number_below : (bs : Bytes) → Small bs → number bs < 256 ^ length bs
unfolding number
number_below [] h = omega arith
number_below (b ∷ bs) h =
    let below = digits_lt {q = b} {m = 256} {r = number bs} {c = 256 ^ length bs} h.0 (number_below bs h.1) in
    rw (pow-suc 256 (length bs), mul_comm (256 ^ length bs) 256) below

-- what stands above the bytes that are written doesn't matter
big_above : (w c m : ℕ) → big w (m + c * 256 ^ w) ≡ big w m
unfolding big
big_above zero c m = refl
big_above (suc w) c m =
    let e : c * 256 ^ suc w ≡ c * 256 * 256 ^ w = rw (pow-suc 256 w, mul_comm (256 ^ w) 256) (sym (mul_assoc c 256 (256 ^ w))) in
    rw (e, add-mul-div_right m (c * 256) (pow256_pos w), add-mul-mod_self_right (m / 256 ^ w) c 256, big_above w (c * 256) m)

-- bytes are those of the number that they write
pub big_number : (bs : Bytes) → Small bs → big (length bs) (number bs) ≡ bs
unfolding big number
big_number [] h = refl
big_number (b ∷ bs) h =
    let low = number_below bs h.1 in
    let first : (b * 256 ^ length bs + number bs) / 256 ^ length bs % 256 ≡ b = rw (digits_div b low) (mod-eq_of_lt h.0) in
    let rest : big (length bs) (b * 256 ^ length bs + number bs) ≡ bs =
    rw (add_comm (b * 256 ^ length bs) (number bs), big_above (length bs) b (number bs)) (big_number bs h.1) in
    λ i. first i ∷ rest i

number_big_mod : (w n : ℕ) → number (big w n) ≡ n % 256 ^ w
unfolding big number
number_big_mod zero n = sym (mod-one n)
number_big_mod (suc w) n =
    rw (length-big w n, number_big_mod w n, pow-suc 256 w, mul_comm (256 ^ w) 256) (sym (mod-mul n {m = 256} {c = 256 ^ w} (omega arith) (pow256_pos w)))

-- a number is that of its bytes
pub number_big : (w n : ℕ) → n < 256 ^ w → number (big w n) ≡ n
number_big w n h = number_big_mod w n ∙ mod-eq_of_lt h

pub big_same : (w m n : ℕ) → m < 256 ^ w → n < 256 ^ w → big w m ≡ big w n → m ≡ n
big_same w m n h k e = sym (number_big w m h) ∙ ap number e ∙ number_big w n k

-- bytes that were read one by one
pub part_more : (s : Bytes) (i n : ℕ) → i < length s → part i (suc n) s ≡ get_or s i 0 ∷ part (i + 1) n s
part_more s i n l = ap (take (suc n)) (drop_more s i 0 l)

pub written : (s bs : Bytes) (w i n : ℕ) → length bs ≡ w → part i w s ≡ bs → Small bs → n ≡ number bs → Written w s i n
written s bs w i n long e small v =
    let bytes : big w n ≡ bs = rw (sym long, v) (big_number bs small) in
    record { bytes = bytes ∙ sym e; value = v ∙ ap number (sym e); small = rw (v, sym long) (number_below bs small) }

-- n bytes from place i + j on, one by one
abbrev pub one_by_one : Bytes → ℕ → ℕ → ℕ → Bytes
one_by_one s i j zero = []
one_by_one s i j (suc n) = get_or s (i + j) 0 ∷ one_by_one s i (suc j) n

one_by_one_lem : (s : Bytes) (i j n : ℕ) → i + j + n ≤ length s → part (i + j) n s ≡ one_by_one s i j n
one_by_one_lem s i j zero l = refl
one_by_one_lem s i j (suc n) l =
    let next : i + j + 1 ≡ i + suc j = omega arith in
    part_more s (i + j) n (omega arith) ∙ ap (λ m. get_or s (i + j) 0 ∷ part m n s) next ∙ ap (λ t. get_or s (i + j) 0 ∷ t) (one_by_one_lem s i (suc j) n (omega arith))

pub written_at : (s : Bytes) (v i n : ℕ) → i + suc v ≤ length s → length (one_by_one s i 1 v) ≡ v → Small (get_or s i 0 ∷ one_by_one s i 1 v) →
    n ≡ number (get_or s i 0 ∷ one_by_one s i 1 v) → Written (suc v) s i n
written_at s v i n l long small e =
    let same : part i (suc v) s ≡ get_or s i 0 ∷ one_by_one s i 1 v = part_more s i v (omega arith) ∙ ap (λ t. get_or s i 0 ∷ t) (one_by_one_lem s i 1 v (omega arith)) in
    written s (get_or s i 0 ∷ one_by_one s i 1 v) (suc v) i n (ap suc long) same small e

-- as the machine writes them
pub two_bytes_of : (n : ℕ) → (n / 256 % 256) ∷ ((n % 256) ∷ []) ≡ big 2 n
unfolding big
two_bytes_of n = rw (div-one n)

pub four_bytes_of : (n : ℕ) → (n / 16777216 % 256) ∷ ((n / 65536 % 256) ∷ ((n / 256 % 256) ∷ ((n % 256) ∷ []))) ≡ big 4 n
unfolding big
four_bytes_of n = rw (div-one n)

pub eight_bytes_of : (n : ℕ) →
    (n / 72057594037927936 % 256) ∷ ((n / 281474976710656 % 256) ∷ ((n / 1099511627776 % 256) ∷ ((n / 4294967296 % 256) ∷ ((n / 16777216 % 256) ∷ ((n / 65536 % 256) ∷ ((n / 256 % 256) ∷ ((n % 256) ∷ []))))))) ≡ big 8 n
unfolding big
eight_bytes_of n = rw (div-one n)
