-- Rows of digests: the nodes over neighbours, and the roots of parts of one size. Assumes nothing.
use Rattle.std.specs.Prelude.{ℕ, zero, suc, ◌+◌, List, [], ◌∷◌, ◌++◌, take, drop, slice_index_or}
use Rattle.merkle_theory.specs.Tree.{root}
use Rattle.merkle.specs.declared.digest.Digest.{Digest}
use Rattle.merkle.specs.Digests.{leaves, node_of}

abbrev pub nodes_over : List Digest → List Digest
nodes_over [] = []
nodes_over (a ∷ []) = []
nodes_over (a ∷ (b ∷ ds)) = node_of a b ∷ nodes_over ds

-- the bytes of two neighbours
abbrev pub pair_at : List Digest → ℕ → List ℕ
pair_at ds i = (slice_index_or ds i (record { bytes = [] })).bytes ++ (slice_index_or ds (i + 1) (record { bytes = [] })).bytes

-- the roots of the first n parts of a row, each of so many leaves
abbrev pub part_roots : ℕ → ℕ → List Digest → List Digest
part_roots zero size row = []
part_roots (suc n) size row = root leaves (take size row) ∷ part_roots n size (drop size row)
