-- The tree over digests of 32 bytes, by any hash. Assumes nothing.
use Rattle.std.specs.Prelude.{◌≡◌, ℕ, List, map, length}
use Rattle.merkle_theory.specs.Tree.{root, path, consistency}
use Rattle.merkle_theory.specs.Texts.{hashing_leaves}
use Rattle.merkle_theory.specs.Tells.{RootTells, PathTells, ConsistencyTells, RowTells, RowPathTells, RowConsistencyTells}
use Rattle.merkle_theory.specs.Bytes.{Bytes, texts, over_entries, over_leaves}

abbrev pub Long : Bytes → Type 0
Long d = length d ≡ 32

-- of every hash whose results have 32 bytes
abbrev pub OfHashes : ((Bytes → Bytes) → Type 0) → Type 0
OfHashes P = (hash : Bytes → Bytes) → ((s : Bytes) → Long (hash s)) → P hash

-- roots and proofs of lists of entries
abbrev pub DigestRoot : Type 0
DigestRoot = OfHashes (λ hash. RootTells (texts hash))

abbrev pub DigestPath : Type 0
DigestPath = OfHashes (λ hash. PathTells (texts hash) Long)

abbrev pub DigestConsistency : Type 0
DigestConsistency = OfHashes (λ hash. ConsistencyTells (texts hash) Long)

-- roots and proofs of rows of leaf digests
abbrev pub RowRoot : Type 0
RowRoot = OfHashes (λ hash. RowTells (texts hash) Long)

abbrev pub RowPath : Type 0
RowPath = OfHashes (λ hash. RowPathTells (texts hash) Long)

abbrev pub RowConsistency : Type 0
RowConsistency = OfHashes (λ hash. RowConsistencyTells (texts hash) Long)

-- a list and the row of its leaf digests have the same root and the same proofs
pub record Agree (hash : Bytes → Bytes) : Type 0 where
  pub leaves : hashing_leaves (texts hash) ≡ over_leaves hash
  pub roots : (xs : List Bytes) → root (over_leaves hash) (map (over_entries hash).leaf xs) ≡ root (over_entries hash) xs
  pub paths : (m : ℕ) (xs : List Bytes) → path (over_leaves hash) m (map (over_entries hash).leaf xs) ≡ path (over_entries hash) m xs
  pub consistencies : (m : ℕ) (ys : List Bytes) → consistency (over_leaves hash) m (map (over_entries hash).leaf ys) ≡ consistency (over_entries hash) m ys
