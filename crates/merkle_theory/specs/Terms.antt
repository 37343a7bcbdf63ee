-- The tree over terms: a digest is written as what it is of, so that nothing collides. Assumes nothing.
use Rattle.std.specs.Prelude.{◌≡◌, ℕ, ◌<◌, ◌↔◌, List, length}
use Rattle.merkle_theory.specs.Tree.{Hashing, root, path, consistency, PathLeads, ConsistencyLeads}
use Rattle.merkle_theory.specs.Texts.{Texts, hashing}
use Rattle.merkle_theory.specs.Claims.{Stands, Begins}
use Rattle.merkle_theory.specs.Bytes.{Bytes}

pub data Term (A : Type 0) : Type 0 where
  Empty : Term A
  Leaf : A → Term A
  Node : Term A → Term A → Term A
  -- a digest from outside
  Raw : Bytes → Term A

-- a term is its own text
abbrev pub terms : (A : Type 0) → Texts A (Term A) (Term A)
terms A = record { empty = Empty; of_leaf = Leaf; of_node = Node; hash = λ s. s }

abbrev pub over_terms : (A : Type 0) → Hashing A (Term A)
over_terms A = hashing (terms A)

-- the root says the list
abbrev pub RootSays : Type 0 → Type 0
RootSays A = (xs ys : List A) → root (over_terms A) xs ≡ root (over_terms A) ys → xs ≡ ys

-- a path leads from an entry to the root exactly if the entry stands at that place, and the path is the one of that place
abbrev pub PathExact : Type 0 → Type 0
PathExact A = (xs : List A) (m : ℕ) (x : A) (ps : List (Term A)) →
    PathLeads Node (length xs) m (Leaf x) ps (root (over_terms A) xs) ↔ (Stands xs m x × (ps ≡ path (over_terms A) m xs))

-- a consistency proof leads to both roots exactly if the later list begins with the earlier, and the proof is the one from there
abbrev pub ConsistencyExact : Type 0 → Type 0
ConsistencyExact A = (xs ys : List A) (ps : List (Term A)) → 0 < length xs →
    ConsistencyLeads Node (length xs) (length ys) (root (over_terms A) xs) (root (over_terms A) ys) ps ↔ (Begins xs ys × (ps ≡ consistency (over_terms A) (length xs) ys))

-- what a term is, over any digests of bytes
unfoldable pub eval : {A : Type 0} → Hashing A Bytes → Term A → Bytes
eval H Empty = H.none
eval H (Leaf x) = H.leaf x
eval H (Node a b) = H.node (eval H a) (eval H b)
eval H (Raw d) = d
