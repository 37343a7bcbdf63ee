-- What roots and proofs tell, over any texts; or else two different texts of one digest are at hand, both among the texts that are hashed
-- for just these values. Digests from outside are Good: of the right length, say. Assumes nothing.
use Rattle.std.specs.Prelude.{◌≡◌, ℕ, ◌<◌, ◌⊎◌, List, ◌++◌, length}
use Rattle.std.specs.List.{AllByRecursion}
use Rattle.merkle_theory.specs.Tree.{root, path, consistency, PathLeads, ConsistencyLeads}
use Rattle.merkle_theory.specs.Claims.{Stands, Begins}
use Rattle.merkle_theory.specs.Texts.{Texts, hashing, hashing_leaves, Collision, root_texts, row_texts, path_texts, row_path_texts, consistency_texts}

module _ {A D X : Type 0} (t : Texts A D X) where
  -- two lists of entries with one root are the same
  abbrev pub RootTells : Type 0
  RootTells = (xs ys : List A) → root (hashing t) xs ≡ root (hashing t) ys → (xs ≡ ys) ⊎ Collision t (root_texts t xs ++ root_texts t ys)

  -- a path that leads from an entry to a list's root is the path of a place where the entry stands
  abbrev pub PathTells : (D → Type 0) → Type 0
  PathTells Good =
      (xs : List A) (m : ℕ) (x : A) (ps : List D) → AllByRecursion Good ps → PathLeads (hashing t).node (length xs) m ((hashing t).leaf x) ps (root (hashing t) xs) →
      (Stands xs m x × (ps ≡ path (hashing t) m xs)) ⊎ Collision t (root_texts t xs ++ path_texts t (length xs) m x ps)

  -- a consistency proof that leads to the roots of an earlier and of a later list is the proof from there in a list that begins with the earlier
  abbrev pub ConsistencyTells : (D → Type 0) → Type 0
  ConsistencyTells Good =
      (xs ys : List A) (ps : List D) → 0 < length xs → AllByRecursion Good ps →
      ConsistencyLeads (hashing t).node (length xs) (length ys) (root (hashing t) xs) (root (hashing t) ys) ps →
      (Begins xs ys × (ps ≡ consistency (hashing t) (length xs) ys)) ⊎
      Collision t (root_texts t xs ++ (root_texts t ys ++ consistency_texts t (length xs) (length ys) (root (hashing t) xs) ps))

  -- the same of rows of leaf digests; with one root they are the same only if they are equally long: else a leaf digest could be a node's
  abbrev pub RowTells : (D → Type 0) → Type 0
  RowTells Good =
      (cs ds : List D) → AllByRecursion Good cs → AllByRecursion Good ds → length cs ≡ length ds → root (hashing_leaves t) cs ≡ root (hashing_leaves t) ds →
      (cs ≡ ds) ⊎ Collision t (row_texts t cs ++ row_texts t ds)

  abbrev pub RowPathTells : (D → Type 0) → Type 0
  RowPathTells Good =
      (ds : List D) (m : ℕ) (d : D) (ps : List D) → AllByRecursion Good ds → Good d → AllByRecursion Good ps → PathLeads (hashing_leaves t).node (length ds) m d ps (root (hashing_leaves t) ds) →
      (Stands ds m d × (ps ≡ path (hashing_leaves t) m ds)) ⊎ Collision t (row_texts t ds ++ row_path_texts t (length ds) m d ps)

  abbrev pub RowConsistencyTells : (D → Type 0) → Type 0
  RowConsistencyTells Good =
      (cs ds : List D) (ps : List D) → 0 < length cs → AllByRecursion Good cs → AllByRecursion Good ds → AllByRecursion Good ps →
      ConsistencyLeads (hashing_leaves t).node (length cs) (length ds) (root (hashing_leaves t) cs) (root (hashing_leaves t) ds) ps →
      (Begins cs ds × (ps ≡ consistency (hashing_leaves t) (length cs) ds)) ⊎
      Collision t (row_texts t cs ++ (row_texts t ds ++ consistency_texts t (length cs) (length ds) (root (hashing_leaves t) cs) ps))
