-- The way down from the root, step by step. Assumes nothing.
use Rattle.std.specs.Prelude.{◌≡◌, ℕ, ◌+◌, ◌-◌, cond, List, [], ◌∷◌, nat_lt}
use Rattle.merkle_theory.specs.Tree.{split}
use Rattle.merkle.specs.declared.digest.Digest.{Digest}
use Rattle.merkle_tree.specs.declared.step.Step.{Step}
use Rattle.merkle_tree.specs.Layout.{root_of, part}

-- from the subtree over size leaves to the side that has a place
abbrev pub step_to : List Digest → ℕ → ℕ → ℕ → Step
step_to ds from size place =
    let left = split size in
    let mid = from + left in
    let right = size - left in
    cond (nat_lt place mid)
    (record { side = record { from = from; size = left }; beside = root_of (part mid right ds) })
    (record { side = record { from = mid; size = right }; beside = root_of (part from left ds) })

-- The digests beside the way down to a place, from the subtree over size leaves to the one over end_size, where it ends. On each subtree before that P holds.
abbrev pub Walks : (ℕ → ℕ → Type 0) → List Digest → ℕ → List Digest → ℕ → ℕ → ℕ → ℕ → Type 0
Walks P ds place [] from size end_from end_size = (end_from ≡ from) × (end_size ≡ size)
Walks P ds place (d ∷ beside) from size end_from end_size =
    let step = step_to ds from size place in
    P from size × (d ≡ step.beside) × Walks P ds place beside step.side.from step.side.size end_from end_size
