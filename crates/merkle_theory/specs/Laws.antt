-- What the split, the root and both kinds of proof are, said without the fuel of their definitions. Assumes nothing.
use Rattle.std.specs.Prelude.{◌≡◌, ℕ, suc, ◌+◌, ◌-◌, ◌^◌, ◌<◌, ◌≤◌, Bool, true, false, List, [], ◌∷◌, length, take, drop}
use Rattle.merkle_theory.specs.Tree.{Hashing, split, root, path, consistency_f, consistency}

abbrev pub PowerOfTwo : ℕ → Type 0
PowerOfTwo k = (a : ℕ) × (k ≡ 2 ^ a)

-- k is a power of two below n, and its double is not below n
abbrev pub Splits : ℕ → ℕ → Type 0
Splits n k = PowerOfTwo k × (k < n) × (n ≤ k + k)

-- of more than one, split finds such a number, and there is no other
abbrev pub SplitLaws : Type 0
SplitLaws = ((n : ℕ) → 2 ≤ n → Splits n (split n)) × ((n k : ℕ) → Splits n k → split n ≡ k)

-- the two sides of a list
abbrev pub left_side : {A : Type 0} → List A → List A
left_side xs = take (split (length xs)) xs

abbrev pub right_side : {A : Type 0} → List A → List A
right_side xs = drop (split (length xs)) xs

module _ {A D : Type 0} (H : Hashing A D) where
  -- the proof that ys begins with its first m, below the top: whole if the way down went left only
  unfoldable pub consistency_from : ℕ → Bool → List A → List D
  consistency_from m whole ys = consistency_f H (suc (length ys)) m whole ys

  -- one entry: its leaf; more: a node over both sides
  pub record RootLaws : Type 0 where
    pub of_none : root H [] ≡ H.none
    pub of_one : (x : A) → root H (x ∷ []) ≡ H.leaf x
    pub of_more : (xs : List A) → 2 ≤ length xs → root H xs ≡ H.node (root H (left_side xs)) (root H (right_side xs))

  -- the root of the other side, then the path in the side where m is
  pub record PathLaws : Type 0 where
    pub of_one : (m : ℕ) (xs : List A) → length xs ≤ 1 → path H m xs ≡ []
    pub in_left : (m : ℕ) (xs : List A) → 2 ≤ length xs → m < split (length xs) → path H m xs ≡ root H (right_side xs) ∷ path H m (left_side xs)
    pub in_right : (m : ℕ) (xs : List A) → 2 ≤ length xs → split (length xs) ≤ m → path H m xs ≡ root H (left_side xs) ∷ path H (m - split (length xs)) (right_side xs)

  -- the root of the side without the boundary at m, then the proof in the other; at the end the part's root, unless it is the earlier root itself
  pub record ConsistencyLaws : Type 0 where
    pub is_from : (m : ℕ) (ys : List A) → consistency H m ys ≡ consistency_from m true ys
    pub of_whole : (ys : List A) → consistency_from (length ys) true ys ≡ []
    pub of_part : (ys : List A) → consistency_from (length ys) false ys ≡ root H ys ∷ []
    pub in_left : (m : ℕ) (whole : Bool) (ys : List A) → 0 < m → m < length ys → m ≤ split (length ys) →
        consistency_from m whole ys ≡ root H (right_side ys) ∷ consistency_from m whole (left_side ys)
    pub in_right : (m : ℕ) (whole : Bool) (ys : List A) → m < length ys → split (length ys) < m →
        consistency_from m whole ys ≡ root H (left_side ys) ∷ consistency_from (m - split (length ys)) false (right_side ys)
