-- The leaves of a subtree and of its two sides, and roots over them.
use Rattle.std.proofs.Common.{◌≡◌, ℕ, ◌+◌, ◌-◌, ◌<◌, ◌≤◌, List, [], ◌∷◌, length, get_or, take, drop, ap, ◌∙◌, ap₂, arith, length-drop, length-take, drop-cons, take-take, drop-drop}
use Rattle.std.proofs.lemmas.List.{drop-take}
use Rattle.merkle_theory.specs.Tree.{root, split}
use Rattle.merkle_theory.specs.Laws.{left_side, right_side}
use Rattle.merkle_theory.proofs.Laws.{split_below, root-of_one, root-of_more}
use Rattle.merkle.specs.declared.digest.Digest.{Digest}
use Rattle.merkle.specs.Digests.{leaves, node_of}
use Rattle.merkle_tree.specs.Layout.{root_of, part}

pub length_part : (from size : ℕ) (ds : List Digest) → from + size ≤ length ds → length (part from size ds) ≡ size
length_part from size ds h = omega (arith, length-take size (drop from ds), length-drop from ds)

pub part_one : (from : ℕ) (ds : List Digest) (d : Digest) → from < length ds → part from 1 ds ≡ get_or ds from d ∷ []
part_one from ds d h = ap (take 1) (drop-cons ds from d h)

-- of a part: its first few, and what follows them
pub part_front : (from size few : ℕ) (ds : List Digest) → few ≤ size → take few (part from size ds) ≡ part from few ds
part_front from size few ds h = take-take few size (drop from ds) h

pub part_back : (from size few : ℕ) (ds : List Digest) → few ≤ size → drop few (part from size ds) ≡ part (from + few) (size - few) ds
part_back from size few ds h =
    let e : size ≡ few + (size - few) = omega arith in
    ap (λ n. drop few (take n (drop from ds))) e
    ∙ (drop-take few (size - few) (drop from ds) ∙ ap (take (size - few)) (drop-drop few from ds))

module _ (ds : List Digest) (from size : ℕ) (two : 2 ≤ size) (within : from + size ≤ length ds) where
  pub left_part : left_side (part from size ds) ≡ part from (split size) ds
  left_part =
      ap (λ n. take (split n) (part from size ds)) (length_part from size ds within)
      ∙ part_front from size (split size) ds (omega (arith, split_below size two))

  pub right_part : right_side (part from size ds) ≡ part (from + split size) (size - split size) ds
  right_part =
      ap (λ n. drop (split n) (part from size ds)) (length_part from size ds within)
      ∙ part_back from size (split size) ds (omega (arith, split_below size two))

  pub root-of_sides : root_of (part from size ds) ≡ node_of (root_of (part from (split size) ds)) (root_of (part (from + split size) (size - split size) ds))
  root-of_sides =
      root-of_more leaves (part from size ds) (omega (arith, length_part from size ds within))
      ∙ ap₂ (λ l r. node_of (root leaves l) (root leaves r)) left_part right_part

pub root-of_leaf : (ds : List Digest) (from : ℕ) (d : Digest) → from < length ds → root_of (part from 1 ds) ≡ get_or ds from d
root-of_leaf ds from d h = ap (root leaves) (part_one from ds d h) ∙ root-of_one leaves (get_or ds from d)
