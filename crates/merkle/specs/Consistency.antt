-- What a consistency proof leads to, by the turns of the way down. Assumes nothing.
use Rattle.std.specs.Prelude.{◌≡◌, ℕ, ◌+◌, Bool, true, false, cond, List, [], ◌∷◌, reverse, length, Some, None, Option, nat_lt}
use Rattle.merkle_theory.specs.Tree as tree
use Rattle.merkle_theory.specs.Tree.{roots_from_consistency}
use Rattle.merkle.specs.declared.digest.Digest.{Digest}
use Rattle.merkle.specs.declared.roots.Roots.{Roots}
use Rattle.merkle.specs.Digests.{node_of}
use Rattle.merkle.specs.Ways.{climbed}

-- the code's roots as the tree's
abbrev pub roots_of : Roots → tree.Roots Digest
roots_of r = record { earlier = r.earlier; later = r.later }

abbrev pub as_roots : Option Roots → Option (tree.Roots Digest)
as_roots None = None
as_roots (Some r) = Some (roots_of r)

-- one root for both trees
abbrev pub both : Digest → Roots
both d = record { earlier = d; later = d }

-- the roots of a side, carried one level up with the digest p of the other side: from the right, or from the left
abbrev pub over_proof : Bool → Digest → Roots → Roots
over_proof true p r = record { earlier = node_of p r.earlier; later = node_of p r.later }
over_proof false p r = record { earlier = r.earlier; later = node_of r.later p }

-- up from where the way ends, with the digests of the proof, the lowest first; if it ever went right, the first of them is of where it ends
abbrev pub roots_above : ℕ → Digest → List Digest → Roots
roots_above turns old [] = both old
roots_above turns old (p ∷ ps) = cond (nat_lt 0 turns) (climbed over_proof turns ps (both p)) (climbed over_proof turns (p ∷ ps) (both old))

abbrev pub up_proof : Option ℕ → List Digest → Digest → Option (tree.Roots Digest)
up_proof None proof old = None
up_proof (Some turns) proof old = Some (roots_of (roots_above turns old (reverse proof)))

-- the turns to the first subtree of n that ends with place m, if the proof for it has so many digests
abbrev pub TurnsToLast : ℕ → ℕ → ℕ → Option ℕ → Type 0
TurnsToLast n m levels turns = (old : Digest) (proof : List Digest) → length proof ≡ levels → roots_from_consistency node_of (m + 1) n true old proof ≡ up_proof turns proof old
