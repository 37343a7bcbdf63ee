-- Bytes cut into pieces as the library cuts them. Assumes nothing.
use Rattle.std.proofs.Common.{◌≡◌, Bool, true, false, ℕ, zero, suc, ◌+◌, ◌*◌, ◌/◌, ◌%◌, ◌<◌, ltb, List, [], ◌∷◌, ◌++◌, MatchBool, length, get_or, take, drop, sym, refl, ap, ◌∙◌, append-nil, arith, length-drop}
use Rattle.std.specs.Bool.{IsTrue, OnTrue}
use Rattle.std.specs.Iterator.{Yields, YieldsFirst}
use Rattle.std.specs.Iterator.Order.{IsSortedAnswer}
use Rattle.std.specs.Iterator.Runs.{Run, YieldsRun}
use Rattle.std.proofs.lemmas.Bool.{ltb-true, ltb-false}
use Rattle.wire.specs.declared.parts.EachSerial.{EachSerial}
use Rattle.wire.specs.Sound.{Whole}
use Rattle.wire.specs.Views.{serials_left}
use native.Mathlib.Decide.{dec_lt}
use Rattle.std.proofs.lemmas.List.{get_or_past, get_or-drop, get_or-take, get_or_append_left, length-append, length-take-le}
use Rattle.wire_theory.specs.Messages.{Rising}
use Rattle.wire.specs.Reading.{RisingNumbers, RisingRow}
use Rattle.std.specs.Int.{from_be_bytes, w16, w32, w64}
use Rattle.std.proofs.lemmas.Nat.{be_bytes_2, be_bytes_4, be_bytes_8}
use Rattle.std.specs.Simd.{first_chunks}
use Rattle.wire_theory.specs.Bytes.{Bytes, big, numbers, part, pieces}
use Rattle.wire_theory.proofs.Numbers.{Small, big_number, number_below, eight_bytes_of, four_bytes_of, two_bytes_of}

pub chunks_are_pieces : (w n : ℕ) (s : Bytes) → first_chunks w n s ≡ pieces w n s
unfolding pieces
chunks_are_pieces w zero s = refl
chunks_are_pieces w (suc n) s = let rest = chunks_are_pieces w n (drop w s) in λ i. take w s ∷ rest i

-- a number is written as the bytes that it was made of
pub eight_written : (bs : Bytes) (n : ℕ) → length bs ≡ 8 → ((i : ℕ) → get_or bs i 0 < 256) → n ≡ from_be_bytes w64 bs → big 8 n ≡ bs
eight_written bs n long small e = sym (eight_bytes_of n) ∙ be_bytes_8 bs n long small e

pub four_written : (bs : Bytes) (n : ℕ) → length bs ≡ 4 → ((i : ℕ) → get_or bs i 0 < 256) → n ≡ from_be_bytes w32 bs → big 4 n ≡ bs
four_written bs n long small e = sym (four_bytes_of n) ∙ be_bytes_4 bs n long small e

pub two_written : (bs : Bytes) (n : ℕ) → length bs ≡ 2 → ((i : ℕ) → get_or bs i 0 < 256) → n ≡ from_be_bytes w16 bs → big 2 n ≡ bs
two_written bs n long small e = sym (two_bytes_of n) ∙ be_bytes_2 bs n long small e

-- ---- rising numbers, gone through one by one

-- what was given stands before what is left
front : {S A : Type 0} (rest : S → List A) (s : S) (xs : List A) (t : S) → Yields (YieldsFirst rest) s xs t → rest s ≡ xs ++ rest t
front rest s [] t e = ap rest e
front rest s (x ∷ xs) t (j, first, others) = first ∙ ap (λ ys. x ∷ ys) (front rest j xs t others)

byte_by_byte : (bs : Bytes) → ((i : ℕ) → get_or bs i 0 < 256) → Small bs
byte_by_byte [] h = tt
byte_by_byte (b ∷ bs) h = (h 0, byte_by_byte bs (λ i. h (suc i)))

module _ (s : Bytes) (bytes : (i : ℕ) → get_or s i 0 < 256) (whole : length s % 8 ≡ 0) where
  piece_small : (k : ℕ) → k < length s / 8 → Small (part (8 * k) 8 s) × (length (part (8 * k) 8 s) ≡ 8)
  piece_small k l =
      let long : length (part (8 * k) 8 s) ≡ 8 = length-take-le 8 (drop (8 * k) s) (omega (arith, length-drop (8 * k) s)) in (
        byte_by_byte (part (8 * k) 8 s) (λ i. elim (dec_lt i 8) [
          | yes h ↦ rw (get_or-take 8 (drop (8 * k) s) i 0 h, get_or-drop (8 * k) s i 0) (bytes (8 * k + i))
          | no h ↦ rw (get_or_past (part (8 * k) 8 s) i 0 (omega (arith, long))) (omega arith)
        ]),
        long,
      )

  pub rising_numbers : Rising (numbers 8 s) → RisingNumbers s (length s / 8)
  rising_numbers rising =
      record {
        each = λ k l. let p = piece_small k l in rw p.1 at (big_number (part (8 * k) 8 s) p.0);
        small = λ k l. let p = piece_small k l in rw p.1 at (number_below (part (8 * k) 8 s) p.0);
        rising = rising;
      }

pub found_rising : (s : EachSerial) (b : Bool) (p : Run (YieldsFirst serials_left)) → p.from ≡ s → OnTrue b (IsTrue p.whole) → IsSortedAnswer ltb p.items b → MatchBool b (Rising (serials_left s)) (Rising (serials_left s) → ⊥)
unfolding YieldsRun
found_rising s true p same whole answer =
    let run = p.gave.0 in
    let last = run.2 whole in
    let all : serials_left s ≡ p.items = ap serials_left (sym same) ∙ front serials_left p.from p.items run.0 run.1 ∙ ap (λ t. p.items ++ t) last.1.0 ∙ append-nil p.items in
    rw all (λ k l. ltb-true _ _ (answer.0 k 0 l))
found_rising s false p same whole answer = λ rising.
    let run = p.gave.0 in
    let all : serials_left s ≡ p.items ++ serials_left run.0 = ap serials_left (sym same) ∙ front serials_left p.from p.items run.0 run.1 in
    let k = answer.0.0 in
    let below = answer.0.1 in
    let falls = ltb-false _ _ (answer.0.2 0) in
    let up : get_or (serials_left s) k 0 < get_or (serials_left s) (k + 1) 0 = rising k (omega (arith, below, ap length all, length-append p.items (serials_left run.0))) in
    let here : get_or (serials_left s) k 0 ≡ get_or p.items k 0 = ap (λ x. get_or x k 0) all ∙ get_or_append_left p.items (serials_left run.0) 0 k (omega (arith, below)) in
    let next : get_or (serials_left s) (k + 1) 0 ≡ get_or p.items (k + 1) 0 = ap (λ x. get_or x (k + 1) 0) all ∙ get_or_append_left p.items (serials_left run.0) 0 (k + 1) below in
    omega (arith, up, here, next, falls)

pub is_rising : (s : Bytes) (b : Bool) → ((i : ℕ) → get_or s i 0 < 256) → length s % 8 ≡ 0 → MatchBool b (Rising (numbers 8 s)) (Rising (numbers 8 s) → ⊥) → MatchBool b (RisingRow s) (Whole 8 s → Rising (numbers 8 s) → ⊥)
is_rising s true bytes whole h = (whole, rising_numbers s bytes whole h)
is_rising s false bytes whole h = λ _. h
