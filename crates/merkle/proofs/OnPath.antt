-- Following a path: the way down to the leaf, and the way up from it, give what the definition says.
use Rattle.std.proofs.Common.{◌≡◌, ℕ, ◌+◌, ◌-◌, ◌<◌, ◌≤◌, Bool, true, false, List, [], ◌∷◌, reverse, length, drop, Some, None, Option, eqb, sym, refl, ap, ◌∙◌, subst, ap₂, inl, inr, arith, eq-eqb, ne_eqb}
use Rattle.std.specs.Bool.{then_some}
use Rattle.std.proofs.lemmas.Bool.{cases_lt, cases_eq}
use Rattle.merkle_theory.specs.Tree.{split, left_of, right_of, root_from_path}
use Rattle.merkle_theory.proofs.Laws.{split_below, path-ends, path-ends_early, path-ends_outside, path_too_long, path-goes_left, path-goes_right}
use Rattle.merkle.specs.declared.digest.Digest.{Digest}
use Rattle.merkle.specs.declared.way.Way.{Way}
use Rattle.merkle.specs.Digests.{node_of}
use Rattle.merkle.specs.Ways.{AtRoot, Below, Down, climbed}
use Rattle.merkle.specs.Inclusion.{over_path, TurnsToLeaf}
use Rattle.merkle.proofs.Climbing.{OnWay, on_root, on_down, all_down, on_end, on_fixed, none_left, some_left, climbed_as}

abbrev path_up : Bool → Digest → Option Digest → Option Digest
path_up true p o = right_of node_of p o
path_up false p o = left_of node_of p o

none_up : (side : Bool) (p : Digest) → path_up side p None ≡ None
none_up true p = refl
none_up false p = refl

some_up : (side : Bool) (p d : Digest) → Some (over_path side p d) ≡ path_up side p (Some d)
some_up true p d = refl
some_up false p d = refl

pub path-outside : (n m levels : ℕ) → n ≤ m → TurnsToLeaf n m levels None
path-outside n m levels h d [] l = path-ends_outside node_of n m d h
path-outside n m levels h d (p ∷ ps) l = elim (cases_lt n 2) [
  | inl few ↦ path_too_long node_of n m d p ps few
  | inr many ↦
      let below = split_below n many in
      path-goes_right node_of n m d p ps many (omega arith)
      ∙ ap (right_of node_of p) (path-outside (n - split n) (m - split n) (length ps) (omega arith) d ps refl)
]

-- what a path leads to from the leaf digest d, where the way is
abbrev rest : Digest → ℕ → ℕ → ℕ → List Digest → Option Digest
rest d n m t ps = root_from_path node_of n m d ps

abbrev pub OnPath : ℕ → ℕ → ℕ → Way → Type 0
OnPath n m levels w = (d : Digest) → OnWay path_up (rest d) (root_from_path node_of n m d) levels w

module _ (n m levels : ℕ) (w : Way) (known : OnPath n m levels w) where
  pub path_short : (w.count ≡ 1 → ⊥) → w.levels ≡ levels → TurnsToLeaf n m levels None
  path_short many e d path l =
      on_fixed path_up (rest d) (root_from_path node_of n m d) levels w None none_up (known d) path l
      (ap (root_from_path node_of w.count w.place d) (none_left path w.levels levels l e) ∙ path-ends_early node_of w.count w.place d (omega arith))

  pub path-long : w.count ≡ 1 → w.levels < levels → TurnsToLeaf n m levels None
  path-long one more d path l =
      let (p, e) = some_left path w.levels levels l more in
      on_fixed path_up (rest d) (root_from_path node_of n m d) levels w None none_up (known d) path l
      (ap (root_from_path node_of w.count w.place d) e ∙ path_too_long node_of w.count w.place d p (drop (w.levels + 1) path) (omega arith))

  pub path-right : w.count ≡ 1 → w.levels ≡ levels → TurnsToLeaf n m levels (Some w.turns)
  path-right one e d path l =
      let first : w.place ≡ 0 = omega arith in
      on_end path_up (rest d) (root_from_path node_of n m d) levels w e (known d) path l
      ∙ (ap (climbed path_up w.turns (reverse path)) (ap₂ (λ a b. root_from_path node_of a b d []) one first ∙ path-ends node_of d)
      ∙ climbed_as over_path path_up Some some_up w.turns (reverse path) d)

  pub path_down : (v : Way) → (w.count ≡ 1 → ⊥) → w.levels < levels → Below w v → OnPath n m levels v
  path_down v many more down d =
      let two : 2 ≤ w.count = omega arith in
      on_down path_up (rest d) (root_from_path node_of n m d) levels w v more down
      (λ p ps here. path-goes_left node_of w.count w.place d p ps two here)
      (λ p ps here. path-goes_right node_of w.count w.place d p ps two here) (known d)

-- all the way down, from the root on
pub path_reached : (P : Way → Type 0) (n m levels : ℕ) → ((w : Way) → P w → w.count ≡ 1 → ⊥) → (w v : Way) → AtRoot n m w → Down P w v → v.levels ≤ levels → OnPath n m levels v
path_reached P n m levels inner w v root (k, downs) =
    λ l. all_down P (OnPath n m levels) levels (λ w v p more below known. path_down n m levels w known v (inner w p) more below) k w v downs l
    (λ d. on_root path_up (rest d) (root_from_path node_of n m d) levels n m w root (λ ps. refl))

pub path_fits : (n m levels : ℕ) (w : Way) → OnPath n m levels w → w.count ≡ 1 → w.levels ≤ levels → TurnsToLeaf n m levels (then_some (eqb w.levels levels) w.turns)
path_fits n m levels w known one within = elim (cases_eq w.levels levels) [
  | inl e ↦ subst (λ b. TurnsToLeaf n m levels (then_some b w.turns)) (sym (eq-eqb w.levels levels e)) (path-right n m levels w known one e)
  | inr e ↦ subst (λ b. TurnsToLeaf n m levels (then_some b w.turns)) (sym (ne_eqb w.levels levels e)) (path-long n m levels w known one (omega arith))
]
