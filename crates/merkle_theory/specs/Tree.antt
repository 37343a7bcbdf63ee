-- The Merkle tree of RFC 9162 over a list of entries, oldest first: its root, inclusion proofs (paths) and consistency
-- proofs, over any way to make digests. In both kinds of proof the digest nearest to the root comes first.
-- The numbers called fuel only let the recursions end; `Laws` has the equations without them. Assumes nothing.
use Rattle.std.specs.Prelude.{◌≡◌, ℕ, zero, suc, ◌+◌, ◌-◌, Bool, true, false, cond, ◌&&◌, ◌||◌, List, [], ◌∷◌, length, take, drop, Some, None, Option, ◌==◌, nat_le, nat_lt}

-- how digests D are made: of no entries, of one entry A, of two digests
pub record Hashing (A D : Type 0) : Type 0 where
  pub none : D
  pub leaf : A → D
  pub node : D → D → D

-- the greatest power of two below n, for n above 1: k doubled as long as it stays below n
unfoldable pub doubled : ℕ → ℕ → ℕ → ℕ
doubled zero k n = k
doubled (suc fuel) k n = cond (nat_lt (k + k) n) (doubled fuel (k + k) n) k

unfoldable pub split : ℕ → ℕ
split n = doubled n 1 n

-- the roots of an earlier and of a later list
pub record Roots (D : Type 0) : Type 0 where
  pub earlier : D
  pub later : D

module _ {A D : Type 0} (H : Hashing A D) where
  unfoldable pub root_f : ℕ → List A → D
  root_f zero xs = H.none
  root_f (suc fuel) [] = H.none
  root_f (suc fuel) (x ∷ []) = H.leaf x
  root_f (suc fuel) (x ∷ (y ∷ ys)) =
      let xs = x ∷ (y ∷ ys) in
      let k = split (length xs) in
      H.node (root_f fuel (take k xs)) (root_f fuel (drop k xs))

  -- the root of a list
  unfoldable pub root : List A → D
  root xs = root_f (length xs) xs

  unfoldable pub path_f : ℕ → ℕ → List A → List D
  path_f zero m xs = []
  path_f (suc fuel) m [] = []
  path_f (suc fuel) m (x ∷ []) = []
  path_f (suc fuel) m (x ∷ (y ∷ ys)) =
      let xs = x ∷ (y ∷ ys) in
      let k = split (length xs) in
      cond (nat_lt m k) (root (drop k xs) ∷ path_f fuel m (take k xs)) (root (take k xs) ∷ path_f fuel (m - k) (drop k xs))

  -- the inclusion proof of place m: the digests beside it, from the root down to the leaf
  unfoldable pub path : ℕ → List A → List D
  path m xs = path_f (length xs) m xs

  unfoldable pub consistency_f : ℕ → ℕ → Bool → List A → List D
  consistency_f zero m whole ys = []
  consistency_f (suc fuel) m whole ys =
      let k = split (length ys) in
      cond (m == length ys) (cond whole [] (root ys ∷ []))
      (cond (nat_le m k) (root (drop k ys) ∷ consistency_f fuel m whole (take k ys)) (root (take k ys) ∷ consistency_f fuel (m - k) false (drop k ys)))

  -- the proof that ys begins with its first m. Whole: the earlier root itself stands here, and the proof needn't have it
  unfoldable pub consistency : ℕ → List A → List D
  consistency m ys = consistency_f (suc (length ys)) m true ys

-- following a proof needs only the digests of two digests
module _ {D : Type 0} (node : D → D → D) where
  abbrev pub left_of : D → Option D → Option D
  left_of p None = None
  left_of p (Some d) = Some (node d p)

  abbrev pub right_of : D → Option D → Option D
  right_of p None = None
  right_of p (Some d) = Some (node p d)

  -- what a path leads to from the leaf digest d at place m of n
  unfoldable pub root_from_path : ℕ → ℕ → D → List D → Option D
  root_from_path n m d [] = cond (n == 1 && m == 0) (Some d) None
  root_from_path n m d (p ∷ ps) =
      let k = split n in
      cond (nat_lt n 2) None (cond (nat_lt m k) (left_of p (root_from_path k m d ps)) (right_of p (root_from_path (n - k) (m - k) d ps)))

  abbrev pub later_only : D → Option (Roots D) → Option (Roots D)
  later_only p None = None
  later_only p (Some r) = Some (record { earlier = r.earlier; later = node r.later p })

  abbrev pub both_after : D → Option (Roots D) → Option (Roots D)
  both_after p None = None
  both_after p (Some r) = Some (record { earlier = node p r.earlier; later = node p r.later })

  abbrev pub alike : D → Option (Roots D)
  alike d = Some (record { earlier = d; later = d })

  -- what a consistency proof leads to for the first m of n and for all n; old is the root of the first m,
  -- which stands for itself as long as the way down went left only
  unfoldable pub roots_from_consistency : ℕ → ℕ → Bool → D → List D → Option (Roots D)
  roots_from_consistency m n whole old [] = cond (m == n && whole) (alike old) None
  roots_from_consistency m n whole old (p ∷ ps) =
      let k = split n in
      cond (m == n) (cond (whole || nat_lt 0 (length ps)) None (alike p))
      (cond (nat_lt m n)
      (cond (nat_le m k) (later_only p (roots_from_consistency m k whole old ps)) (both_after p (roots_from_consistency (m - k) (n - k) false old ps)))
      None)

  -- the path leads from the leaf digest d at place m of n to the root r
  abbrev pub PathLeads : ℕ → ℕ → D → List D → D → Type 0
  PathLeads n m d ps r = root_from_path n m d ps ≡ Some r

  -- the consistency proof leads to the root e of m entries and to the root l of n
  abbrev pub ConsistencyLeads : ℕ → ℕ → D → D → List D → Type 0
  ConsistencyLeads m n e l ps = roots_from_consistency m n true e ps ≡ Some (record { earlier = e; later = l })
