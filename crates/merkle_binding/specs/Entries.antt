-- What roots and proofs over the row of leaf digests of a list of entries tell of the entries; or else two different texts of one
-- SHA-256 digest are at hand, both among the texts that are hashed for just these values. Assumes nothing.
use Rattle.std.specs.Prelude.{◌≡◌, ℕ, ◌<◌, ◌⊎◌, List, ◌++◌, map, length}
use Rattle.std.specs.List.{AllByRecursion}
use Rattle.sha256.specs.Standard.{digest}
use Rattle.merkle_theory.specs.Bytes.{Bytes, over_entries}
use Rattle.merkle_theory.specs.Claims.{Stands, Begins}
use Rattle.merkle_theory.specs.Texts.{Collision, root_texts, path_texts, consistency_texts}
use Rattle.merkle_theory.specs.Tree.{root, path, consistency, PathLeads, ConsistencyLeads}
use Rattle.merkle.specs.declared.digest.Digest.{Digest}
use Rattle.merkle.specs.Digests.{leaf_of, node_of, entries, leaves}
use Rattle.merkle_binding.specs.Bytes.{all_bytes, Sized, by_sha256}

-- the leaf digests of a list of entries
abbrev pub row_of : List Bytes → List Digest
row_of xs = map leaf_of xs

-- the row has the root and the proofs of the entries
pub record RowAgrees : Type 0 where
  pub roots : (xs : List Bytes) → root leaves (row_of xs) ≡ root entries xs
  pub paths : (m : ℕ) (xs : List Bytes) → path leaves m (row_of xs) ≡ path entries m xs
  pub consistencies : (m : ℕ) (ys : List Bytes) → consistency leaves m (row_of ys) ≡ consistency entries m ys

-- and over bytes the entries have the bytes of these
pub record BytesAgree : Type 0 where
  pub roots : (xs : List Bytes) → root (over_entries digest) xs ≡ (root leaves (row_of xs)).bytes
  pub paths : (m : ℕ) (xs : List Bytes) → path (over_entries digest) m xs ≡ all_bytes (path leaves m (row_of xs))
  pub consistencies : (m : ℕ) (ys : List Bytes) → consistency (over_entries digest) m ys ≡ all_bytes (consistency leaves m (row_of ys))

-- two lists of entries with one root are the same
abbrev pub RootTellsEntries : Type 0
RootTellsEntries = (xs ys : List Bytes) → root entries xs ≡ root entries ys → (xs ≡ ys) ⊎ Collision by_sha256 (root_texts by_sha256 xs ++ root_texts by_sha256 ys)

-- a path that leads from an entry's leaf digest to the root is the path of a place where the entry stands
abbrev pub PathTellsEntry : Type 0
PathTellsEntry =
    (xs : List Bytes) (m : ℕ) (x : Bytes) (ps : List Digest) → AllByRecursion Sized ps → PathLeads node_of (length xs) m (leaf_of x) ps (root leaves (row_of xs)) →
    (Stands xs m x × (ps ≡ path leaves m (row_of xs))) ⊎ Collision by_sha256 (root_texts by_sha256 xs ++ path_texts by_sha256 (length xs) m x (all_bytes ps))

-- a consistency proof that leads to the roots of an earlier and of a later list is the proof from there in a list that begins with the earlier
abbrev pub ConsistencyTellsEntries : Type 0
ConsistencyTellsEntries =
    (xs ys : List Bytes) (ps : List Digest) → 0 < length xs → AllByRecursion Sized ps →
    ConsistencyLeads node_of (length xs) (length ys) (root leaves (row_of xs)) (root leaves (row_of ys)) ps →
    (Begins xs ys × (ps ≡ consistency leaves (length xs) (row_of ys))) ⊎
    Collision by_sha256 (root_texts by_sha256 xs ++ (root_texts by_sha256 ys ++ consistency_texts by_sha256 (length xs) (length ys) (root leaves (row_of xs)).bytes (all_bytes ps)))
