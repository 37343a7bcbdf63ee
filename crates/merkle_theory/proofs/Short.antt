-- Proofs are short: each digest of one halves the power of two that bounds the list.
use Rattle.std.proofs.Common.{◌≡◌, ℕ, zero, suc, ◌-◌, ◌^◌, ◌<◌, ◌≤◌, Bool, true, false, List, [], ◌∷◌, length, sym, ap, subst, inl, inr, arith}
use Rattle.std.proofs.lemmas.Bool.{cases_lt}
use Rattle.merkle_theory.specs.Tree.{Hashing, split, path}
use Rattle.merkle_theory.specs.Laws.{left_side, right_side, consistency_from}
use Rattle.merkle_theory.specs.Claims.{Short}
use Rattle.merkle_theory.proofs.Laws.{split_within, rest_within, halves, length-left, length-right, path-of_one, path_in_left, path_in_right, consistency-is_from}
use Rattle.merkle_theory.proofs.Laws.{consistency-of_whole, consistency-of_part, consistency_in_left, consistency_in_right}

module _ {A : Type 0} (j : ℕ) (xs : List A) (two : 2 ≤ length xs) (within : length xs ≤ 2 ^ suc j) where
  left_short : length (left_side xs) ≤ 2 ^ j
  left_short = omega (arith, length-left xs two, split_within j (length xs) two within)

  right_short : length (right_side xs) ≤ 2 ^ j
  right_short = omega (arith, length-right xs, rest_within j (length xs) two within)

module _ {A D : Type 0} (H : Hashing A D) where
  PathShort : List A → Type 0
  PathShort xs = (j m : ℕ) → length xs ≤ 2 ^ j → length (path H m xs) ≤ j

  one_short : (xs : List A) → length xs ≤ 1 → (j m : ℕ) → length (path H m xs) ≤ j
  one_short xs h j m = omega (arith, ap length (path-of_one H m xs h))

  more_short : (xs : List A) → 2 ≤ length xs → PathShort (left_side xs) → PathShort (right_side xs) → PathShort xs
  unfolding PathShort
  more_short xs two left right zero m within = absurd (omega arith)
  more_short xs two left right (suc j) m within = elim (cases_lt m (split (length xs))) [
    | inl l ↦ omega (arith, ap length (path_in_left H m xs two l), left j m (left_short j xs two within))
    | inr l ↦ omega (arith, ap length (path_in_right H m xs two l), right j (m - split (length xs)) (right_short j xs two within))
  ]

  path_short : (xs : List A) → PathShort xs
  unfolding PathShort
  path_short = halves PathShort (λ j m within. one_short [] (omega arith) j m) (λ x j m within. one_short (x ∷ []) (omega arith) j m) more_short

  FromShort : List A → Type 0
  FromShort ys = (j m : ℕ) (whole : Bool) → 0 < m → m ≤ length ys → length ys ≤ 2 ^ j → length (consistency_from H m whole ys) ≤ suc j

  all_short : (ys : List A) (whole : Bool) → length (consistency_from H (length ys) whole ys) ≤ 1
  all_short ys true = omega (arith, ap length (consistency-of_whole H ys))
  all_short ys false = omega (arith, ap length (consistency-of_part H ys))

  end_short : (ys : List A) (j m : ℕ) (whole : Bool) → length ys ≡ m → length (consistency_from H m whole ys) ≤ suc j
  end_short ys j m whole e = omega (arith, subst (λ k. length (consistency_from H k whole ys) ≤ 1) e (all_short ys whole))

  from_more_short : (ys : List A) → 2 ≤ length ys → FromShort (left_side ys) → FromShort (right_side ys) → FromShort ys
  unfolding FromShort
  from_more_short ys two left right zero m whole pos le within = absurd (omega arith)
  from_more_short ys two left right (suc j) m whole pos le within = elim (cases_lt m (length ys)) [
    | inr s ↦ end_short ys (suc j) m whole (omega arith)
    | inl s ↦ elim (cases_lt (split (length ys)) m) [
      | inr h ↦ omega (arith, ap length (consistency_in_left H m whole ys pos s h), left j m whole pos (omega (arith, length-left ys two)) (left_short j ys two within))
      | inl h ↦
          omega (
            arith,
            ap length (consistency_in_right H m whole ys s h),
            right j (m - split (length ys)) false (omega arith) (omega (arith, length-right ys)) (right_short j ys two within),
          )
    ]
  ]

  from_short : (ys : List A) → FromShort ys
  unfolding FromShort
  from_short =
      halves FromShort
      (λ j m whole pos le within. absurd (omega arith))
      (λ x j m whole pos le within. end_short (x ∷ []) j m whole (omega arith))
      from_more_short

  pub proofs_short : Short H
  unfolding PathShort FromShort
  proofs_short = record {
    paths = λ j m xs. path_short xs j m;
    consistencies = λ j m ys pos le within. subst (λ ps. length ps ≤ suc j) (sym (consistency-is_from H m ys)) (from_short ys j m true pos le within);
  }
