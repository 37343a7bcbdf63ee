-- That rows of leaf digests have proofs, and what their roots and proofs tell of them; or else two different texts of one SHA-256 digest
-- are at hand, both among the texts that are hashed for just these values. Assumes nothing.
use Rattle.std.specs.Prelude.{◌≡◌, ℕ, ◌<◌, ◌≤◌, ◌⊎◌, List, ◌++◌, length, take}
use Rattle.std.specs.List.{AllByRecursion}
use Rattle.merkle_theory.specs.Claims.{Stands, Begins}
use Rattle.merkle_theory.specs.Texts.{Collision, row_texts, row_path_texts, consistency_texts}
use Rattle.merkle_theory.specs.Tree.{root, path, consistency, PathLeads, ConsistencyLeads}
use Rattle.merkle.specs.declared.digest.Digest.{Digest}
use Rattle.merkle.specs.Digests.{node_of, leaves}
use Rattle.merkle_binding.specs.Bytes.{all_bytes, Sized, by_sha256}

-- the path of its place leads from each leaf digest to the root
abbrev pub PathFromLeaf : Type 0
PathFromLeaf = (ds : List Digest) (m : ℕ) (d : Digest) → Stands ds m d → PathLeads node_of (length ds) m d (path leaves m ds) (root leaves ds)

-- the consistency proof from m leads to the root of the first m and to the root of all
abbrev pub ConsistencyFromRow : Type 0
ConsistencyFromRow =
    (m : ℕ) (ds : List Digest) → 0 < m → m ≤ length ds →
    ConsistencyLeads node_of m (length ds) (root leaves (take m ds)) (root leaves ds) (consistency leaves m ds)

-- two rows of one length with one root are the same
abbrev pub RootTellsRow : Type 0
RootTellsRow =
    (cs ds : List Digest) → AllByRecursion Sized cs → AllByRecursion Sized ds → length cs ≡ length ds → root leaves cs ≡ root leaves ds →
    (cs ≡ ds) ⊎ Collision by_sha256 (row_texts by_sha256 (all_bytes cs) ++ row_texts by_sha256 (all_bytes ds))

-- a path that leads from a leaf digest to the root is the path of a place where it stands
abbrev pub PathTellsLeaf : Type 0
PathTellsLeaf =
    (ds : List Digest) (m : ℕ) (d : Digest) (ps : List Digest) → AllByRecursion Sized ds → Sized d → AllByRecursion Sized ps →
    PathLeads node_of (length ds) m d ps (root leaves ds) →
    (Stands ds m d × (ps ≡ path leaves m ds)) ⊎ Collision by_sha256 (row_texts by_sha256 (all_bytes ds) ++ row_path_texts by_sha256 (length ds) m d.bytes (all_bytes ps))

-- a consistency proof that leads to the roots of an earlier and of a later row is the proof from there in a row that begins with the earlier
abbrev pub ConsistencyTellsRow : Type 0
ConsistencyTellsRow =
    (cs ds ps : List Digest) → 0 < length cs → AllByRecursion Sized cs → AllByRecursion Sized ds → AllByRecursion Sized ps →
    ConsistencyLeads node_of (length cs) (length ds) (root leaves cs) (root leaves ds) ps →
    (Begins cs ds × (ps ≡ consistency leaves (length cs) ds)) ⊎
    Collision by_sha256 (row_texts by_sha256 (all_bytes cs) ++ (row_texts by_sha256 (all_bytes ds) ++
    consistency_texts by_sha256 (length cs) (length ds) (root leaves cs).bytes (all_bytes ps)))
