-- The tree over bytes: a hash of byte strings, with a byte in front that tells a leaf's text from a node's. Assumes nothing.
use Rattle.std.specs.Prelude.{ℕ, List, [], ◌∷◌, ◌++◌}
use Rattle.merkle_theory.specs.Tree.{Hashing}
use Rattle.merkle_theory.specs.Texts.{Texts, hashing}

abbrev pub Bytes : Type 0
Bytes = List ℕ

-- no entries: the empty text; an entry: 0 and the entry; two digests: 1 and both
abbrev pub texts : (Bytes → Bytes) → Texts Bytes Bytes Bytes
texts hash = record { empty = []; of_leaf = λ x. 0 ∷ x; of_node = λ a b. 1 ∷ (a ++ b); hash = hash }

-- the tree over entries
abbrev pub over_entries : (Bytes → Bytes) → Hashing Bytes Bytes
over_entries hash = hashing (texts hash)

-- the tree over leaf digests alone: each stands for itself
abbrev pub over_leaves : (Bytes → Bytes) → Hashing Bytes Bytes
over_leaves hash = record { none = hash []; leaf = λ d. d; node = λ a b. hash (1 ∷ (a ++ b)) }
