-- What inclusion and consistency proofs are to show, that there are such proofs, and that they are short, over any way to make digests. Assumes nothing.
use Rattle.std.specs.Prelude.{◌≡◌, ℕ, suc, ◌^◌, ◌<◌, ◌≤◌, List, length, take, slice_index_or}
use Rattle.merkle_theory.specs.Tree.{Hashing, root, path, consistency, PathLeads, ConsistencyLeads}

-- x stands at place m of xs
abbrev pub Stands : {A : Type 0} → List A → ℕ → A → Type 0
Stands {A} xs m x = (m < length xs) × ((d : A) → slice_index_or xs m d ≡ x)

-- ys begins with xs
abbrev pub Begins : {A : Type 0} → List A → List A → Type 0
Begins xs ys = xs ≡ take (length xs) ys

module _ {A D : Type 0} (H : Hashing A D) where
  -- the path of its place leads from each entry to the root
  abbrev pub PathThere : Type 0
  PathThere = (xs : List A) (m : ℕ) (x : A) → Stands xs m x → PathLeads H.node (length xs) m (H.leaf x) (path H m xs) (root H xs)

  -- the consistency proof from m leads to the root of the first m and to the root of all
  abbrev pub ConsistencyThere : Type 0
  ConsistencyThere = (m : ℕ) (ys : List A) → 0 < m → m ≤ length ys → ConsistencyLeads H.node m (length ys) (root H (take m ys)) (root H ys) (consistency H m ys)

  -- of at most 2 ^ j entries: a path has at most j digests, and a consistency proof one more
  pub record Short : Type 0 where
    pub paths : (j m : ℕ) (xs : List A) → length xs ≤ 2 ^ j → length (path H m xs) ≤ j
    pub consistencies : (j m : ℕ) (ys : List A) → 0 < m → m ≤ length ys → length ys ≤ 2 ^ j → length (consistency H m ys) ≤ suc j
