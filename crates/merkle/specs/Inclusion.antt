-- What a proof leads to, by the turns of the way down. Assumes nothing.
use Rattle.std.specs.Prelude.{◌≡◌, ℕ, Bool, true, false, List, reverse, length, Some, None, Option}
use Rattle.merkle_theory.specs.Tree.{root_from_path}
use Rattle.merkle.specs.declared.digest.Digest.{Digest}
use Rattle.merkle.specs.Digests.{node_of}
use Rattle.merkle.specs.Ways.{climbed}

-- the digest d of a side, carried one level up with the digest p of the other side: from the right, or from the left
abbrev pub over_path : Bool → Digest → Digest → Digest
over_path true p d = node_of p d
over_path false p d = node_of d p

abbrev pub up_path : Option ℕ → List Digest → Digest → Option Digest
up_path None path d = None
up_path (Some turns) path d = Some (climbed over_path turns (reverse path) d)

-- the turns to place m of n, if the way down to it has so many levels
abbrev pub TurnsToLeaf : ℕ → ℕ → ℕ → Option ℕ → Type 0
TurnsToLeaf n m levels turns = (d : Digest) (path : List Digest) → length path ≡ levels → root_from_path node_of n m d path ≡ up_path turns path d
