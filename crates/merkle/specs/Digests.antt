-- The tree that the code works on: digests are SHA-256's. Assumes nothing.
use Rattle.std.specs.Prelude.{ℕ, List, [], ◌∷◌, ◌++◌}
use Rattle.merkle_theory.specs.Tree.{Hashing}
use Rattle.merkle.specs.declared.digest.Digest.{Digest}
use Rattle.sha256.specs.Standard.{digest}

-- the digest of an entry, of two digests, and of no entries
abbrev pub leaf_of : List ℕ → Digest
leaf_of entry = record { bytes = digest (0 ∷ entry) }

abbrev pub node_of : Digest → Digest → Digest
node_of a b = record { bytes = digest (1 ∷ (a.bytes ++ b.bytes)) }

abbrev pub empty_root : Digest
empty_root = record { bytes = digest [] }

-- the tree over entries, and over leaf digests, each of which stands for itself
abbrev pub entries : Hashing (List ℕ) Digest
entries = record { none = empty_root; leaf = leaf_of; node = node_of }

abbrev pub leaves : Hashing Digest Digest
leaves = record { none = empty_root; leaf = λ d. d; node = node_of }
