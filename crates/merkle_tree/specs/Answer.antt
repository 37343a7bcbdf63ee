-- What a tree answers, and when it refuses. Assumes nothing.
use Rattle.std.specs.Prelude.{◌≡◌, ℕ, ◌<◌, ◌≤◌, List, ◌++◌, length, codes, Result, MatchResult}
use Rattle.merkle_theory.specs.Tree.{path, consistency}
use Rattle.merkle.specs.declared.digest.Digest.{Digest}
use Rattle.merkle.specs.Digests.{leaves}
use Rattle.merkle_tree.specs.declared.error.TreeError.{TreeError}
use Rattle.merkle_tree.specs.declared.error.TreeError.TheVariants.{NotThere, NoMemory}

-- the inclusion proof of a place, and the proof that a list begins with its first few
abbrev pub path_of : ℕ → List Digest → List Digest
path_of place ds = path leaves place ds

abbrev pub consistency_of : ℕ → List Digest → List Digest
consistency_of count ds = consistency leaves count ds

-- a leaf among the first count, and the first few grown to more
abbrev pub LeafAmong : ℕ → ℕ → List Digest → Type 0
LeafAmong place count ds = (place < count) × (count ≤ length ds)

abbrev pub GrowthAmong : ℕ → ℕ → List Digest → Type 0
GrowthAmong few more ds = (0 < few) × (few ≤ more) × (more ≤ length ds)

-- how a refusal reads
abbrev pub refusal_text : TreeError → List ℕ
refusal_text NotThere = codes "the tree has too few leaves"
refusal_text NoMemory = codes "no memory"

-- what is asked for isn't there; or it is, and memory was wanting
abbrev pub Refuses : TreeError → Type 0 → Type 0
Refuses NotThere There = There → ⊥
Refuses NoMemory There = There

-- what is asked for is there and is answered, or it is refused
abbrev pub Answers : {X : Type 0} → Result X TreeError → Type 0 → (X → Type 0) → Type 0
Answers r There Is = MatchResult r (λ x. There × Is x) (λ e. Refuses e There)

-- a row is added at the end; or memory was wanting, and nothing changes
abbrev pub Appends : {X : Type 0} → Result X TreeError → List Digest → List Digest → List Digest → Type 0
Appends r row was is = MatchResult r (λ _. is ≡ was ++ row) (λ e. (e ≡ NoMemory) × (is ≡ was))
