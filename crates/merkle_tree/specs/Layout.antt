-- Where a growing tree keeps the digests of its whole subtrees. Assumes nothing.
use Rattle.std.specs.Prelude.{◌≡◌, ℕ, zero, suc, ◌+◌, ◌-◌, ◌/◌, ◌<◌, ◌≤◌, Bool, true, cond, List, [], length, get_or, take, drop, ◌==◌, slice_index_or}
use Rattle.std.specs.Str.{bytes_eq}
use Rattle.merkle_theory.specs.Tree.{root}
use Rattle.merkle.specs.declared.digest.Digest.{Digest}
use Rattle.merkle.specs.Digests.{leaves}

-- the root over leaf digests
abbrev pub root_of : List Digest → Digest
root_of ds = root leaves ds

-- what stands where a row has nothing
abbrev pub blank : Digest
blank = record { bytes = [] }

-- the leaves of a subtree
abbrev pub part : ℕ → ℕ → List Digest → List Digest
part from size ds = take size (drop from ds)

-- i · 2 ^ k
abbrev pub scaled : ℕ → ℕ → ℕ
scaled zero i = i
scaled (suc k) i = scaled k i + scaled k i

-- Number i of the whole subtrees over 2 ^ (k + 1) leaves: is its root kept at its middle?
unfoldable pub holds : List Digest → List Digest → ℕ → ℕ → Bool
holds ds ms k i = bytes_eq (get_or ms (scaled k (i + i + 1)) blank).bytes (root_of (part (scaled (suc k) i) (scaled (suc k) 1) ds)).bytes

-- the root of every whole subtree, whose last leaf is there, is kept
abbrev pub Kept : List Digest → List Digest → Type 0
Kept ds ms = (k i : ℕ) → scaled (suc k) (suc i) - 1 < length ds → holds ds ms k i ≡ true

-- what is kept for the whole subtree over size leaves from a place on: the leaf itself, or the digest at the middle
abbrev pub kept_at : List Digest → List Digest → ℕ → ℕ → Digest
kept_at ds ms from size = cond (size == 1) (slice_index_or ds from blank) (slice_index_or ms (from + size / 2) blank)

-- a subtree: a power of two that isn't below its size divides the place where it starts
pub record Subtree (ds : List Digest) (from size : ℕ) : Type 0 where
  pub level : ℕ
  pub index : ℕ
  pub starts : from ≡ scaled level index
  pub fits : size ≤ scaled level 1
  pub some : 1 ≤ size
  pub within : from + size ≤ length ds
