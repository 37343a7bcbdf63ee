-- What a digit, and a number that is too large, say of the whole word. Assumes nothing.
use Rattle.std.proofs.Common.{◌≡◌, ℕ, zero, suc, ◌+◌, ◌*◌, ◌^◌, ◌<◌, ◌≤◌, List, [], ◌∷◌, length, get_or, take, arith, take_all}
use Rattle.std.specs.Str.Parse.{AllDigits, digits_value, digits_value_after}
use Rattle.std.specs.Char.{digit_value}
use Rattle.std.proofs.lemmas.Int.Digits.{digits_value_more}
use Rattle.script.specs.Texts.{Decimal, NoDecimal}

digit_below : (ds : List ℕ) (i : ℕ) → AllDigits 10 ds → i < length ds → digit_value (get_or ds i 0) < 10
digit_below [] i h l = absurd (omega arith)
digit_below (c ∷ ds) zero h l = h.0
digit_below (c ∷ ds) (suc i) h l = digit_below ds i h.1 (omega arith)

grows : (n : ℕ) (ds : List ℕ) → n ≤ digits_value_after 10 n ds
grows n [] = omega arith
grows n (c ∷ ds) = omega (arith, grows (n * 10 + digit_value c) ds)

front_le : (n : ℕ) (ds : List ℕ) (i : ℕ) → digits_value_after 10 n (take i ds) ≤ digits_value_after 10 n ds
front_le n ds zero = grows n ds
front_le n [] (suc i) = omega arith
front_le n (c ∷ ds) (suc i) = front_le (n * 10 + digit_value c) ds i

pub not_a_digit : (word : List ℕ) (i : ℕ) → i < length word → 10 ≤ digit_value (get_or word i 0) → NoDecimal word
not_a_digit word i l h n d = omega (arith, digit_below word i d.digits.1 l)

pub too_large : (word : List ℕ) (i m : ℕ) → i < length word → digits_value 10 (take i word) ≡ m → 2 ^ 64 ≤ m * 10 + digit_value (get_or word i 0) → NoDecimal word
too_large word i m l e h n d = omega (arith, digits_value_more 10 word i l, front_le 0 word (i + 1), d.number, d.small)

pub decimal_of_all : (word : List ℕ) (i n : ℕ) → length word ≤ i → 0 < length word → AllDigits 10 (take i word) → digits_value 10 (take i word) ≡ n → n < 2 ^ 64 → Decimal word n
decimal_of_all word i n all some digits number small =
    let e : take i word ≡ word = take_all i word all in
    record { digits = (some, rw e at digits); number = rw e at number; small = small }
