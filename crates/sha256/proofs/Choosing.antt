-- Two forms of the choice of bits: the standard's, and the code's, which has one operation less.
use Rattle.std.proofs.Common.{◌≡◌, ℕ, zero, suc, ◌-◌, ◌*◌, ◌/◌, ◌%◌, ◌^◌, ◌<◌, Bool, true, false, cond, refl, pow-suc, arith}
use lib.Bits.{bit_and, bit_xor}
use Rattle.std.proofs.lemmas.Nat.{and_shr, xor_shr, and_mod, xor_mod}

-- the code's form, and the standard's at numbers of which m is the largest
abbrev chosen : ℕ → ℕ → ℕ → ℕ
chosen x y z = bit_xor z (bit_and x (bit_xor y z))

abbrev choice : ℕ → ℕ → ℕ → ℕ → ℕ
choice m x y z = bit_xor (bit_and x y) (bit_and (m - x) z)

abbrev bit : Bool → ℕ
bit b = cond b 1 0

bits_agree : (x y z : Bool) → chosen (bit x) (bit y) (bit z) ≡ choice 1 (bit x) (bit y) (bit z)
bits_agree true true true = refl
bits_agree true true false = refl
bits_agree true false true = refl
bits_agree true false false = refl
bits_agree false true true = refl
bits_agree false true false = refl
bits_agree false false true = refl
bits_agree false false false = refl

a_bit : (r : ℕ) → r < 2 → (b : Bool) × (r ≡ bit b)
a_bit zero l = (false, refl)
a_bit (suc zero) l = (true, refl)
a_bit (suc (suc r)) l = absurd (omega arith)

lowest_agree : (x y z : ℕ) → x < 2 → y < 2 → z < 2 → chosen x y z ≡ choice 1 x y z
lowest_agree x y z p q r =
    let (u, e) = a_bit x p in
    let (v, f) = a_bit y q in
    let (w, g) = a_bit z r in
    rw (e, f, g) (bits_agree u v w)

xor_half : (a b : ℕ) → bit_xor a b / 2 ≡ bit_xor (a / 2) (b / 2)
xor_half a b = xor_shr a b 1

and_half : (a b : ℕ) → bit_and a b / 2 ≡ bit_and (a / 2) (b / 2)
and_half a b = and_shr a b 1

xor_low : (a b : ℕ) → bit_xor a b % 2 ≡ bit_xor (a % 2) (b % 2)
xor_low a b = xor_mod a b 1

and_low : (a b : ℕ) → bit_and a b % 2 ≡ bit_and (a % 2) (b % 2)
and_low a b = and_mod a b 1

-- by the lowest bit and the others
pub choose_is : (k x y z : ℕ) → x < 2 ^ k → y < 2 ^ k → z < 2 ^ k → chosen x y z ≡ choice (2 ^ k - 1) x y z
choose_is zero x y z p q r =
    let e : x ≡ 0 = omega arith in
    let f : y ≡ 0 = omega arith in
    let g : z ≡ 0 = omega arith in
    simp (e, f, g)
choose_is (suc k) x y z p q r =
    let m = 2 ^ suc k - 1 in
    let more : 2 ^ suc k ≡ 2 ^ k * 2 = pow-suc 2 k in
    let others : (m - x) / 2 ≡ 2 ^ k - 1 - x / 2 = omega arith in
    let lowest : (m - x) % 2 ≡ 1 - x % 2 = omega arith in
    let high : chosen x y z / 2 ≡ choice m x y z / 2 =
    simp (xor_half, and_half, others) (choose_is k (x / 2) (y / 2) (z / 2) (omega arith) (omega arith) (omega arith)) in
    let low : chosen x y z % 2 ≡ choice m x y z % 2 =
    simp (xor_low, and_low, lowest) (lowest_agree (x % 2) (y % 2) (z % 2) (omega arith) (omega arith) (omega arith)) in
    omega arith
