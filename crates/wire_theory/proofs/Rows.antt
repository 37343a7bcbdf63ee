-- Rows of pieces of one width, cut from bytes. Assumes nothing.
use Rattle.std.proofs.Common.{◌≡◌, ℕ, zero, suc, ◌+◌, ◌-◌, ◌*◌, ◌/◌, ◌<◌, ◌≤◌, List, [], ◌∷◌, ◌++◌, map, length, get_or, take, drop, sym, refl, ap, ◌∙◌, add-zero, mul-zero, mul-suc, arith, length-drop}
use native.Mathlib.Nat.{mul-div_cancel_left}
use native.Mathlib.Decide.{dec_le, dec_lt}
use Rattle.std.specs.List.{flat_map}
use Rattle.std.proofs.lemmas.List.{take-append-drop, nil_from_length, drop-drop, length-take-le, length-map, get_or-map}
use Rattle.wire_theory.specs.Bytes.{Bytes, big, number, part, pieces, row_of, numbers}
use Rattle.wire_theory.specs.Messages.{row, FitDigests, Rising}
use Rattle.wire_theory.specs.Shapes.{ListShape, serial_count}

pub length-pieces : (w n : ℕ) (s : Bytes) → length (pieces w n s) ≡ n
unfolding pieces
length-pieces w zero s = refl
length-pieces w (suc n) s = ap suc (length-pieces w n (drop w s))

pub pieces_row : (w n : ℕ) (s : Bytes) → length s ≡ w * n → row (pieces w n s) ≡ s
unfolding pieces
pieces_row w zero s l = sym (nil_from_length s (l ∙ mul-zero w))
pieces_row w (suc n) s l =
    let rest : length (drop w s) ≡ w * n = length-drop w s ∙ omega (arith, rw (mul-suc w n) at l) in
    ap (λ t. take w s ++ t) (pieces_row w n (drop w s) rest) ∙ take-append-drop w s

pub piece_at : (w n : ℕ) (s : Bytes) (k : ℕ) → k < n → get_or (pieces w n s) k [] ≡ part (w * k) w s
unfolding pieces
piece_at w zero s k l = absurd (omega arith)
piece_at w (suc n) s zero l = rw (mul-zero w)
piece_at w (suc n) s (suc k) l =
    piece_at w n (drop w s) k (omega arith) ∙ ap (take w) (drop-drop (w * k) w s) ∙ ap (λ m. take w (drop m s)) (omega (arith, mul-suc w k))

module _ (w n : ℕ) (s : Bytes) (some : 0 < w) (long : length s ≡ w * n) where
  pub row_count : length s / w ≡ n
  row_count = ap (λ m. m / w) long ∙ mul-div_cancel_left n some

  pub length-row : length (row_of w s) ≡ n
  length-row = length-pieces w (length s / w) s ∙ row_count

  pub row_is : row (row_of w s) ≡ s
  row_is = ap (λ m. row (pieces w m s)) row_count ∙ pieces_row w n s long

  pub row_at : (k : ℕ) → k < n → get_or (row_of w s) k [] ≡ part (w * k) w s
  row_at k l = piece_at w (length s / w) s k (omega (arith, row_count))

pub digests_fit : (n : ℕ) (s : Bytes) → length s ≡ 32 * n → FitDigests (row_of 32 s)
digests_fit n s long k l =
    let below : k < n = omega (arith, length-row 32 n s (omega arith) long) in
    ap length (row_at 32 n s (omega arith) long k below) ∙ length-take-le 32 (drop (32 * k) s) (omega (arith, length-drop (32 * k) s))

-- numbers that are written as the pieces say
written_joined : (ps : List Bytes) → ((k : ℕ) → k < length ps → big 8 (number (get_or ps k [])) ≡ get_or ps k []) → flat_map (big 8) (map number ps) ≡ row ps
written_joined [] h = refl
written_joined (p ∷ ps) h = let rest = written_joined ps (λ k l. h (suc k) (omega arith)) in let first = h 0 (omega arith) in λ i. first i ++ rest i

module _ (n : ℕ) (s : Bytes) (long : length s ≡ 8 * n) where
  pub length-numbers : length (numbers 8 s) ≡ n
  length-numbers = length-map (row_of 8 s) number ∙ length-row 8 n s (omega arith) long

  pub number_at : (k : ℕ) → k < n → get_or (numbers 8 s) k 0 ≡ number (part (8 * k) 8 s)
  number_at k l =
      get_or-map number (row_of 8 s) k [] 0 (omega (arith, length-row 8 n s (omega arith) long)) ∙ ap number (row_at 8 n s (omega arith) long k l)

  pub numbers_joined : ((k : ℕ) → k < n → big 8 (number (part (8 * k) 8 s)) ≡ part (8 * k) 8 s) → flat_map (big 8) (numbers 8 s) ≡ s
  numbers_joined h =
      written_joined (row_of 8 s)
      (λ k l.
      let below : k < n = omega (arith, length-row 8 n s (omega arith) long) in
      let e = row_at 8 n s (omega arith) long k below in
      ap (λ p. big 8 (number p)) e ∙ h k below ∙ sym e)
      ∙ row_is 8 n s (omega arith) long

  pub rising_from : ((k : ℕ) → k + 1 < n → number (part (8 * k) 8 s) < number (part (8 * (k + 1)) 8 s)) → Rising (numbers 8 s)
  rising_from h k l =
      let below : k + 1 < n = omega (arith, length-numbers) in
      rw (number_at k (omega arith), number_at (k + 1) below) (h k below)

  pub rising_at : Rising (numbers 8 s) → (i : ℕ) → 0 < i → i < n → number (part (8 * (i - 1)) 8 s) < number (part (8 * i) 8 s)
  rising_at rising i some below =
      let next : i - 1 + 1 ≡ i = omega arith in
      let h : get_or (numbers 8 s) (i - 1) 0 < get_or (numbers 8 s) i 0 = rw next at (rising (i - 1) (omega (arith, length-numbers))) in
      rw (number_at (i - 1) (omega arith), number_at i below) at h

pub not_rising : (s p : Bytes) (n : ℕ) → n ≡ serial_count s → p ≡ part 12 (8 * n) s → (Rising (numbers 8 p) → ⊥) → ListShape s → ⊥
not_rising s p n count is-p falls shape = falls (rw (is-p, count) shape.3)

-- ---- rows with bytes left over

pub rows_long : (w : ℕ) (s : Bytes) → length (row_of w s) ≡ length s / w
rows_long w s = length-pieces w (length s / w) s

pub rows_at : (w : ℕ) (s : Bytes) (k : ℕ) → k < length s / w → get_or (row_of w s) k [] ≡ part (w * k) w s
rows_at w s k l = piece_at w (length s / w) s k l

pub numbers_long : (s : Bytes) → length (numbers 8 s) ≡ length s / 8
numbers_long s = length-map (row_of 8 s) number ∙ rows_long 8 s

pub numbers_at : (s : Bytes) (k : ℕ) → k < length s / 8 → get_or (numbers 8 s) k 0 ≡ number (part (8 * k) 8 s)
numbers_at s k l = get_or-map number (row_of 8 s) k [] 0 (omega (arith, rows_long 8 s)) ∙ ap number (rows_at 8 s k l)

-- each number is above all before it
pub rising_far : (xs : List ℕ) → Rising xs → (j d : ℕ) → j + 1 + d < length xs → get_or xs j 0 < get_or xs (j + 1 + d) 0
rising_far xs rising j zero l = rw (add-zero (j + 1)) (rising j (omega arith))
rising_far xs rising j (suc d) l =
    let step : get_or xs (j + 1 + d) 0 < get_or xs (j + 1 + d + 1) 0 = rising (j + 1 + d) (omega arith) in
    let next : j + 1 + suc d ≡ j + 1 + d + 1 = omega arith in
    rw next (omega (arith, rising_far xs rising j d (omega arith), step))

pub rising_below : (xs : List ℕ) → Rising xs → (j k : ℕ) → j < k → k < length xs → get_or xs j 0 < get_or xs k 0
rising_below xs rising j k l m = let e : j + 1 + (k - (j + 1)) ≡ k = omega arith in rw e at (rising_far xs rising j (k - (j + 1)) (omega arith))

-- where a number can stand, seen from the middle
pub above_middle : (xs : List ℕ) (n j k : ℕ) → Rising xs → j < length xs → get_or xs j 0 < n → k < length xs → get_or xs k 0 ≡ n → j + 1 ≤ k
above_middle xs n j k rising l below m e =
    elim (dec_le (j + 1) k) [ yes h ↦ h | no h ↦ elim (dec_lt k j) [ yes g ↦ absurd (omega (arith, rising_below xs rising k j g l)) | no g ↦ let same : k ≡ j = omega arith in absurd (omega (arith, ap (λ i. get_or xs i 0) same)) ] ]

pub below_middle : (xs : List ℕ) (n j k : ℕ) → Rising xs → (get_or xs j 0 ≡ n → ⊥) → n ≤ get_or xs j 0 → k < length xs → get_or xs k 0 ≡ n → k < j
below_middle xs n j k rising other above m e =
    elim (dec_lt k j) [ yes h ↦ h | no h ↦ elim (dec_lt j k) [ yes g ↦ absurd (omega (arith, rising_below xs rising j k g m)) | no g ↦ let same : k ≡ j = omega arith in absurd (omega (arith, ap (λ i. get_or xs i 0) same, other (sym (ap (λ i. get_or xs i 0) same) ∙ e))) ] ]
