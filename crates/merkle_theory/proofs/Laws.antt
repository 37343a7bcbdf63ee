-- The equations of the split, the root and both kinds of proof without fuel, and an induction along the split.
use Rattle.std.proofs.Common.{◌≡◌, ℕ, zero, suc, ◌+◌, ◌-◌, ◌^◌, ◌<◌, ◌≤◌, Bool, true, false, cond, ltb, List, [], ◌∷◌, ◌++◌, length, Some, None, sym, refl, ap, ◌∙◌, subst, ap₂, inl, inr, arith, length-append, length-drop, length-take, pow_pos, pow_mono, le-ltb, lt-ltb, eq-eqb, ne_eqb, le-leb}
use borrow.Author.Tests.{lt-leb}
use Rattle.std.proofs.lemmas.List.{take_at, drop_at}
use Rattle.std.proofs.lemmas.Bool.{ltb-true, ltb-false, cond_both, cases_lt, cases_eq, cases_order}
use Rattle.merkle_theory.specs.Tree.{Hashing, doubled, split, root_f, root, path_f, path, consistency_f, consistency, left_of, right_of, root_from_path, later_only, both_after}
use Rattle.merkle_theory.specs.Tree.{alike, roots_from_consistency}
use Rattle.merkle_theory.specs.Laws.{PowerOfTwo, Splits, left_side, right_side, consistency_from}

-- The split.

power_doubled : (k : ℕ) → PowerOfTwo k → PowerOfTwo (k + k)
power_doubled k (a, e) = (suc a, omega arith)

power_pos : (k : ℕ) → PowerOfTwo k → 0 < k
power_pos k (a, e) = omega (arith, pow_pos a)

doubled_splits : (fuel k n : ℕ) → PowerOfTwo k → k < n → n ≤ k + fuel → Splits n (doubled fuel k n)
unfolding doubled
doubled_splits zero k n p l f = absurd (omega arith)
doubled_splits (suc fuel) k n p l f =
    cond_both (ltb (k + k) n) (doubled fuel (k + k) n) k (Splits n)
    (λ t. doubled_splits fuel (k + k) n (power_doubled k p) (ltb-true (k + k) n t) (omega (arith, power_pos k p)))
    (λ t. (p, l, ltb-false (k + k) n t))

pub split_splits : (n : ℕ) → 2 ≤ n → Splits n (split n)
unfolding split
split_splits n h = doubled_splits n 1 n (0, refl) (omega arith) (omega arith)

pub split_power : (n : ℕ) → 2 ≤ n → PowerOfTwo (split n)
split_power n h = (split_splits n h).0

pub split_pos : (n : ℕ) → 2 ≤ n → 0 < split n
split_pos n h = power_pos (split n) (split_power n h)

pub split_below : (n : ℕ) → 2 ≤ n → split n < n
split_below n h = (split_splits n h).1

pub split_half : (n : ℕ) → 2 ≤ n → n ≤ split n + split n
split_half n h = (split_splits n h).2

no_power_between : (a b n : ℕ) → a < b → n ≤ 2 ^ a + 2 ^ a → 2 ^ b < n → ⊥
no_power_between a b n l h k =
    let up : 2 ^ suc a ≤ 2 ^ b = pow_mono l in
    omega arith

splits_once : (n k l : ℕ) → Splits n k → Splits n l → k ≡ l
splits_once n k l ((a, e), u, v) ((b, f), x, y) = elim (cases_order a b) [
  | inl s ↦ e ∙ (ap (λ c. 2 ^ c) s ∙ sym f)
  | inr (inl s) ↦ absurd (no_power_between a b n s (omega arith) (omega arith))
  | inr (inr s) ↦ absurd (no_power_between b a n s (omega arith) (omega arith))
]

pub split_unique : (n k : ℕ) → Splits n k → split n ≡ k
split_unique n k s = splits_once n (split n) k (split_splits n (omega (arith, power_pos k s.0))) s

pub split_of_power : (a : ℕ) → split (2 ^ suc a) ≡ 2 ^ a
split_of_power a = let pos = pow_pos a in split_unique (2 ^ suc a) (2 ^ a) ((a, refl), omega arith, omega arith)

power_below : (a j n : ℕ) → 2 ^ a < n → n ≤ 2 ^ suc j → a ≤ j
power_below a j n l h = elim (cases_lt a (suc j)) [
  | inl s ↦ omega arith
  | inr s ↦ let up : 2 ^ suc j ≤ 2 ^ a = pow_mono s in omega arith
]

-- both sides of a list of at most 2 ^ (j + 1) have at most 2 ^ j
pub split_within : (j n : ℕ) → 2 ≤ n → n ≤ 2 ^ suc j → split n ≤ 2 ^ j
split_within j n h l =
    let (p, below, half) = split_splits n h in
    let up : 2 ^ p.0 ≤ 2 ^ j = pow_mono (power_below p.0 j n (subst (λ k. k < n) p.1 below) l) in
    subst (λ k. k ≤ 2 ^ j) (sym p.1) up

pub rest_within : (j n : ℕ) → 2 ≤ n → n ≤ 2 ^ suc j → n - split n ≤ 2 ^ j
rest_within j n h l = omega (arith, split_half n h, split_within j n h l)

-- An induction along the split, of numbers and of lists.

halving : (P : ℕ → Type 0) → P 0 → P 1 → ((n : ℕ) → 2 ≤ n → P (split n) → P (n - split n) → P n) → (fuel n : ℕ) → n ≤ fuel → P n
halving P none one more fuel zero h = none
halving P none one more fuel (suc zero) h = one
halving P none one more zero (suc (suc n)) h = absurd (omega arith)
halving P none one more (suc fuel) (suc (suc n)) h =
    let k = suc (suc n) in
    let two : 2 ≤ k = omega arith in
    more k two
    (halving P none one more fuel (split k) (omega (arith, split_below k two)))
    (halving P none one more fuel (k - split k) (omega (arith, split_pos k two)))

pub halves_of_number : (P : ℕ → Type 0) → P 0 → P 1 → ((n : ℕ) → 2 ≤ n → P (split n) → P (n - split n) → P n) → (n : ℕ) → P n
halves_of_number P none one more n = halving P none one more n n (omega arith)

module _ {A : Type 0} where
  pub length-left : (xs : List A) → 2 ≤ length xs → length (left_side xs) ≡ split (length xs)
  length-left xs h = omega (arith, length-take (split (length xs)) xs, split_below (length xs) h)

  pub length-right : (xs : List A) → length (right_side xs) ≡ length xs - split (length xs)
  length-right xs = length-drop (split (length xs)) xs

  pub halves : (P : List A → Type 0) → P [] → ((x : A) → P (x ∷ [])) → ((xs : List A) → 2 ≤ length xs → P (left_side xs) → P (right_side xs) → P xs) → (xs : List A) → P xs
  halves P none one more xs =
      halves_of_number (λ n. (zs : List A) → length zs ≡ n → P zs) of_none of_one
      (λ n h left right zs e. more zs (omega arith)
      (left (left_side zs) (length-left zs (omega arith) ∙ ap split e))
      (right (right_side zs) (length-right zs ∙ ap (λ k. k - split k) e)))
      (length xs) xs refl
    where
      of_none : (zs : List A) → length zs ≡ 0 → P zs
      of_none [] e = none
      of_none (z ∷ zs) e = absurd (omega arith)

      of_one : (zs : List A) → length zs ≡ 1 → P zs
      of_one [] e = absurd (omega arith)
      of_one (z ∷ []) e = one z
      of_one (z ∷ (y ∷ zs)) e = absurd (omega arith)

  left_within : (fuel : ℕ) (xs : List A) → 2 ≤ length xs → length xs ≤ suc fuel → length (left_side xs) ≤ fuel
  left_within fuel xs h l = omega (arith, length-left xs h, split_below (length xs) h)

  right_within : (fuel : ℕ) (xs : List A) → 2 ≤ length xs → length xs ≤ suc fuel → length (right_side xs) ≤ fuel
  right_within fuel xs h l = omega (arith, length-right xs, split_pos (length xs) h)

module _ {A D : Type 0} (H : Hashing A D) where
  -- The root.

  root_enough : (f g : ℕ) (xs : List A) → length xs ≤ f → length xs ≤ g → root_f H f xs ≡ root_f H g xs
  unfolding root_f
  root_enough zero zero xs h k = refl
  root_enough zero (suc g) [] h k = refl
  root_enough zero (suc g) (x ∷ xs) h k = absurd (omega arith)
  root_enough (suc f) zero [] h k = refl
  root_enough (suc f) zero (x ∷ xs) h k = absurd (omega arith)
  root_enough (suc f) (suc g) [] h k = refl
  root_enough (suc f) (suc g) (x ∷ []) h k = refl
  root_enough (suc f) (suc g) (x ∷ (y ∷ ys)) h k =
      let xs = x ∷ (y ∷ ys) in
      let two : 2 ≤ length xs = omega arith in
      ap₂ H.node
      (root_enough f g (left_side xs) (left_within f xs two h) (left_within g xs two k))
      (root_enough f g (right_side xs) (right_within f xs two h) (right_within g xs two k))

  pub root-of_none : root H [] ≡ H.none
  unfolding root root_f
  root-of_none = refl

  pub root-of_one : (x : A) → root H (x ∷ []) ≡ H.leaf x
  unfolding root root_f
  root-of_one x = refl

  pub root-of_more : (xs : List A) → 2 ≤ length xs → root H xs ≡ H.node (root H (left_side xs)) (root H (right_side xs))
  unfolding root root_f
  root-of_more [] h = absurd (omega arith)
  root-of_more (x ∷ []) h = absurd (omega arith)
  root-of_more (x ∷ (y ∷ ys)) h =
      let xs = x ∷ (y ∷ ys) in
      let n = suc (length ys) in
      ap₂ H.node
      (root_enough n (length (left_side xs)) (left_side xs) (left_within n xs h (omega arith)) (omega arith))
      (root_enough n (length (right_side xs)) (right_side xs) (right_within n xs h (omega arith)) (omega arith))

  -- a whole side, a power of two of entries, and no more entries after it
  pub root-of_append : (xs ys : List A) → PowerOfTwo (length xs) → 0 < length ys → length ys ≤ length xs → root H (xs ++ ys) ≡ H.node (root H xs) (root H ys)
  root-of_append xs ys p pos le =
      let n = length-append xs ys in
      let here : split (length (xs ++ ys)) ≡ length xs = split_unique (length (xs ++ ys)) (length xs) (p, omega arith, omega arith) in
      let left : left_side (xs ++ ys) ≡ xs = take_at xs ys (split (length (xs ++ ys))) (sym here) in
      let right : right_side (xs ++ ys) ≡ ys = drop_at xs ys (split (length (xs ++ ys))) (sym here) in
      root-of_more (xs ++ ys) (omega arith) ∙ ap₂ (λ s t. H.node (root H s) (root H t)) left right

  -- The path.

  path_enough : (f g m : ℕ) (xs : List A) → length xs ≤ f → length xs ≤ g → path_f H f m xs ≡ path_f H g m xs
  unfolding path_f
  path_enough zero zero m xs h k = refl
  path_enough zero (suc g) m [] h k = refl
  path_enough zero (suc g) m (x ∷ xs) h k = absurd (omega arith)
  path_enough (suc f) zero m [] h k = refl
  path_enough (suc f) zero m (x ∷ xs) h k = absurd (omega arith)
  path_enough (suc f) (suc g) m [] h k = refl
  path_enough (suc f) (suc g) m (x ∷ []) h k = refl
  path_enough (suc f) (suc g) m (x ∷ (y ∷ ys)) h k =
      let xs = x ∷ (y ∷ ys) in
      let two : 2 ≤ length xs = omega arith in
      ap₂ (cond (ltb m (split (length xs))))
      (ap (◌∷◌ (root H (right_side xs))) (path_enough f g m (left_side xs) (left_within f xs two h) (left_within g xs two k)))
      (ap (◌∷◌ (root H (left_side xs))) (path_enough f g (m - split (length xs)) (right_side xs) (right_within f xs two h) (right_within g xs two k)))

  pub path-of_one : (m : ℕ) (xs : List A) → length xs ≤ 1 → path H m xs ≡ []
  unfolding path path_f
  path-of_one m [] h = refl
  path-of_one m (x ∷ []) h = refl
  path-of_one m (x ∷ (y ∷ ys)) h = absurd (omega arith)

  path-of_more : (m : ℕ) (xs : List A) → 2 ≤ length xs →
      path H m xs ≡ cond (ltb m (split (length xs))) (root H (right_side xs) ∷ path H m (left_side xs)) (root H (left_side xs) ∷ path H (m - split (length xs)) (right_side xs))
  unfolding path path_f
  path-of_more m [] h = absurd (omega arith)
  path-of_more m (x ∷ []) h = absurd (omega arith)
  path-of_more m (x ∷ (y ∷ ys)) h =
      let xs = x ∷ (y ∷ ys) in
      let n = suc (length ys) in
      ap₂ (cond (ltb m (split (length xs))))
      (ap (◌∷◌ (root H (right_side xs))) (path_enough n (length (left_side xs)) m (left_side xs) (left_within n xs h (omega arith)) (omega arith)))
      (ap (◌∷◌ (root H (left_side xs))) (path_enough n (length (right_side xs)) (m - split (length xs)) (right_side xs) (right_within n xs h (omega arith)) (omega arith)))

  pub path_in_left : (m : ℕ) (xs : List A) → 2 ≤ length xs → m < split (length xs) → path H m xs ≡ root H (right_side xs) ∷ path H m (left_side xs)
  path_in_left m xs h l = path-of_more m xs h ∙ rw (lt-ltb m (split (length xs)) l)

  pub path_in_right : (m : ℕ) (xs : List A) → 2 ≤ length xs → split (length xs) ≤ m → path H m xs ≡ root H (left_side xs) ∷ path H (m - split (length xs)) (right_side xs)
  path_in_right m xs h l = path-of_more m xs h ∙ rw (le-ltb m (split (length xs)) l)

  -- The consistency proof.

  pub fuelled_all : (f m : ℕ) (whole : Bool) (ys : List A) → m ≡ length ys → consistency_f H (suc f) m whole ys ≡ cond whole [] (root H ys ∷ [])
  unfolding consistency_f
  fuelled_all f m whole ys e = rw (eq-eqb m (length ys) e)

  pub fuelled_left : (f m : ℕ) (whole : Bool) (ys : List A) → (m ≡ length ys → ⊥) → m ≤ split (length ys) →
      consistency_f H (suc f) m whole ys ≡ root H (right_side ys) ∷ consistency_f H f m whole (left_side ys)
  unfolding consistency_f
  fuelled_left f m whole ys ne h = rw (ne_eqb m (length ys) ne, le-leb m (split (length ys)) h)

  pub fuelled_right : (f m : ℕ) (whole : Bool) (ys : List A) → (m ≡ length ys → ⊥) → split (length ys) < m →
      consistency_f H (suc f) m whole ys ≡ root H (left_side ys) ∷ consistency_f H f (m - split (length ys)) false (right_side ys)
  unfolding consistency_f
  fuelled_right f m whole ys ne h = rw (ne_eqb m (length ys) ne, lt-leb m (split (length ys)) h)

  consistency_enough : (f g m : ℕ) (whole : Bool) (ys : List A) → 0 < m → m ≤ length ys → length ys ≤ f → length ys ≤ g →
      consistency_f H f m whole ys ≡ consistency_f H g m whole ys
  consistency_enough zero g m whole ys pos le h k = absurd (omega arith)
  consistency_enough (suc f) zero m whole ys pos le h k = absurd (omega arith)
  consistency_enough (suc f) (suc g) m whole ys pos le h k = elim (cases_lt m (length ys)) [
    | inr s ↦ let e : m ≡ length ys = omega arith in fuelled_all f m whole ys e ∙ sym (fuelled_all g m whole ys e)
    | inl s ↦
        let two : 2 ≤ length ys = omega arith in
        let ne : m ≡ length ys → ⊥ = omega arith in
        elim (cases_lt (split (length ys)) m) [
          | inl r ↦
              fuelled_right f m whole ys ne r ∙
              (ap (◌∷◌ (root H (left_side ys)))
              (consistency_enough f g (m - split (length ys)) false (right_side ys) (omega arith) (omega (arith, length-right ys)) (right_within f ys two h) (right_within g ys two k))
              ∙ sym (fuelled_right g m whole ys ne r))
          | inr l ↦
              fuelled_left f m whole ys ne l ∙
              (ap (◌∷◌ (root H (right_side ys)))
              (consistency_enough f g m whole (left_side ys) pos (omega (arith, length-left ys two)) (left_within f ys two h) (left_within g ys two k))
              ∙ sym (fuelled_left g m whole ys ne l))
        ]
  ]

  pub consistency-is_from : (m : ℕ) (ys : List A) → consistency H m ys ≡ consistency_from H m true ys
  unfolding consistency consistency_from
  consistency-is_from m ys = refl

  pub consistency-of_whole : (ys : List A) → consistency_from H (length ys) true ys ≡ []
  unfolding consistency_from
  consistency-of_whole ys = fuelled_all (length ys) (length ys) true ys refl

  pub consistency-of_part : (ys : List A) → consistency_from H (length ys) false ys ≡ root H ys ∷ []
  unfolding consistency_from
  consistency-of_part ys = fuelled_all (length ys) (length ys) false ys refl

  pub consistency_in_left : (m : ℕ) (whole : Bool) (ys : List A) → 0 < m → m < length ys → m ≤ split (length ys) →
      consistency_from H m whole ys ≡ root H (right_side ys) ∷ consistency_from H m whole (left_side ys)
  unfolding consistency_from
  consistency_in_left m whole ys pos l h =
      let two : 2 ≤ length ys = omega arith in
      let left : length (left_side ys) ≡ split (length ys) = length-left ys two in
      let below : split (length ys) < length ys = split_below (length ys) two in
      fuelled_left (length ys) m whole ys (omega arith) h ∙
      ap (◌∷◌ (root H (right_side ys))) (consistency_enough (length ys) (suc (length (left_side ys))) m whole (left_side ys) pos (omega arith) (omega arith) (omega arith))

  pub consistency_in_right : (m : ℕ) (whole : Bool) (ys : List A) → m < length ys → split (length ys) < m →
      consistency_from H m whole ys ≡ root H (left_side ys) ∷ consistency_from H (m - split (length ys)) false (right_side ys)
  unfolding consistency_from
  consistency_in_right m whole ys l h =
      let right : length (right_side ys) ≡ length ys - split (length ys) = length-right ys in
      fuelled_right (length ys) m whole ys (omega arith) h ∙
      ap (◌∷◌ (root H (left_side ys))) (consistency_enough (length ys) (suc (length (right_side ys))) (m - split (length ys)) false (right_side ys) (omega arith) (omega arith) (omega arith) (omega arith))

-- What a proof leads to.

module _ {D : Type 0} (node : D → D → D) where
  pub path-ends : (d : D) → root_from_path node 1 0 d [] ≡ Some d
  unfolding root_from_path
  path-ends d = refl

  pub path-ends_early : (n m : ℕ) (d : D) → 2 ≤ n → root_from_path node n m d [] ≡ None
  unfolding root_from_path
  path-ends_early n m d h = rw (ne_eqb n 1 (omega arith))

  pub path-ends_outside : (n m : ℕ) (d : D) → n ≤ m → root_from_path node n m d [] ≡ None
  unfolding root_from_path
  path-ends_outside n m d h = elim (cases_eq n 1) [
    | inl e ↦ rw (eq-eqb n 1 e, ne_eqb m 0 (omega arith))
    | inr e ↦ rw (ne_eqb n 1 e)
  ]

  pub path_too_long : (n m : ℕ) (d p : D) (ps : List D) → n < 2 → root_from_path node n m d (p ∷ ps) ≡ None
  unfolding root_from_path
  path_too_long n m d p ps h = rw (lt-ltb n 2 h)

  pub path-goes_left : (n m : ℕ) (d p : D) (ps : List D) → 2 ≤ n → m < split n → root_from_path node n m d (p ∷ ps) ≡ left_of node p (root_from_path node (split n) m d ps)
  unfolding root_from_path
  path-goes_left n m d p ps h l = rw (le-ltb n 2 h, lt-ltb m (split n) l)

  pub path-goes_right : (n m : ℕ) (d p : D) (ps : List D) → 2 ≤ n → split n ≤ m →
      root_from_path node n m d (p ∷ ps) ≡ right_of node p (root_from_path node (n - split n) (m - split n) d ps)
  unfolding root_from_path
  path-goes_right n m d p ps h l = rw (le-ltb n 2 h, le-ltb m (split n) l)

  pub consistency-ends_whole : (n : ℕ) (old : D) → roots_from_consistency node n n true old [] ≡ alike node old
  unfolding roots_from_consistency
  consistency-ends_whole n old = rw (eq-eqb n n refl)

  pub consistency-ends_early : (m n : ℕ) (whole : Bool) (old : D) → (m ≡ n → ⊥) → roots_from_consistency node m n whole old [] ≡ None
  unfolding roots_from_consistency
  consistency-ends_early m n whole old h = rw (ne_eqb m n h)

  pub consistency_lacks : (m n : ℕ) (old : D) → roots_from_consistency node m n false old [] ≡ None
  unfolding roots_from_consistency
  consistency_lacks m n old = elim (cases_eq m n) [ inl e ↦ rw (eq-eqb m n e) | inr e ↦ rw (ne_eqb m n e) ]

  pub consistency-ends_part : (n : ℕ) (old p : D) → roots_from_consistency node n n false old (p ∷ []) ≡ alike node p
  unfolding roots_from_consistency
  consistency-ends_part n old p = rw (eq-eqb n n refl)

  pub consistency_too_long_whole : (n : ℕ) (old p : D) (ps : List D) → roots_from_consistency node n n true old (p ∷ ps) ≡ None
  unfolding roots_from_consistency
  consistency_too_long_whole n old p ps = rw (eq-eqb n n refl)

  pub consistency_too_long_part : (n : ℕ) (old p q : D) (ps : List D) → roots_from_consistency node n n false old (p ∷ (q ∷ ps)) ≡ None
  unfolding roots_from_consistency
  consistency_too_long_part n old p q ps = rw (eq-eqb n n refl, lt-ltb 0 (suc (length ps)) (omega arith))

  pub consistency-of_fewer : (m n : ℕ) (whole : Bool) (old : D) (ps : List D) → n < m → roots_from_consistency node m n whole old ps ≡ None
  unfolding roots_from_consistency
  consistency-of_fewer m n whole old [] h = rw (ne_eqb m n (omega arith))
  consistency-of_fewer m n whole old (p ∷ ps) h = rw (ne_eqb m n (omega arith), le-ltb m n (omega arith))

  pub consistency-goes_left : (m n : ℕ) (whole : Bool) (old p : D) (ps : List D) → m < n → m ≤ split n →
      roots_from_consistency node m n whole old (p ∷ ps) ≡ later_only node p (roots_from_consistency node m (split n) whole old ps)
  unfolding roots_from_consistency
  consistency-goes_left m n whole old p ps l h = rw (ne_eqb m n (omega arith), lt-ltb m n l, le-leb m (split n) h)

  pub consistency-goes_right : (m n : ℕ) (whole : Bool) (old p : D) (ps : List D) → m < n → split n < m →
      roots_from_consistency node m n whole old (p ∷ ps) ≡ both_after node p (roots_from_consistency node (m - split n) (n - split n) false old ps)
  unfolding roots_from_consistency
  consistency-goes_right m n whole old p ps l h = rw (ne_eqb m n (omega arith), lt-ltb m n l, lt-leb m (split n) h)
