-- How far the digests of whole subtrees are worked out, while leaves are added. Assumes nothing.
use Rattle.std.specs.Prelude.{◌≡◌, ℕ, suc, ◌+◌, ◌*◌, ◌<◌, ◌≤◌, true, List, [], ◌∷◌, length}
use Rattle.merkle.specs.declared.digest.Digest.{Digest}
use Rattle.merkle_tree.specs.Layout.{scaled, holds, kept_at}

-- what is kept for eight neighbouring whole subtrees
abbrev pub kept_eight : List Digest → List Digest → ℕ → ℕ → List Digest
kept_eight ds ms from size =
    kept_at ds ms from size ∷ (kept_at ds ms (from + size) size ∷ (kept_at ds ms (from + 2 * size) size ∷ (kept_at ds ms (from + 3 * size) size ∷
    (kept_at ds ms (from + 4 * size) size ∷ (kept_at ds ms (from + 5 * size) size ∷ (kept_at ds ms (from + 6 * size) size ∷ (kept_at ds ms (from + 7 * size) size ∷ [])))))))

-- the roots of all whole subtrees of the first count leaves are kept
abbrev pub KeptTo : List Digest → List Digest → ℕ → Type 0
KeptTo ds ms count = (k i : ℕ) → scaled (suc k) (suc i) ≤ count → holds ds ms k i ≡ true

-- besides these, the roots of all whole subtrees over size leaves or fewer
pub record Levels (ds ms : List Digest) (count size : ℕ) : Type 0 where
  pub level : ℕ
  pub size_is : size ≡ scaled level 1
  pub before : KeptTo ds ms count
  pub below : (k i : ℕ) → k < level → scaled (suc k) (suc i) ≤ length ds → holds ds ms k i ≡ true

-- besides these, the roots of those over twice as many leaves that end at a place or before
pub record Row (ds ms : List Digest) (count size place : ℕ) : Type 0 where
  pub levels : Levels ds ms count size
  pub index : ℕ
  pub place_is : place ≡ scaled (suc levels.level) index
  pub here : (i : ℕ) → i < index → holds ds ms levels.level i ≡ true
