-- Following a consistency proof: the way down to where the earlier tree ends, and the way up from there, give what the definition says.
use Rattle.std.proofs.Common.{◌≡◌, ℕ, ◌+◌, ◌-◌, ◌*◌, ◌<◌, ◌≤◌, Bool, true, false, cond, eqb, ltb, List, [], ◌∷◌, ◌++◌, reverse, length, take, drop, Some, None, Option, sym, refl, ap, ◌∙◌, subst, ap₂, inl, inr, arith, length-drop, le-ltb, lt-ltb, eq-eqb, ne_eqb}
use Rattle.std.specs.Bool.{then_some}
use Rattle.std.proofs.lemmas.List.{reverse-append}
use Rattle.std.proofs.lemmas.Bool.{cases_lt, cases_eq}
use Rattle.merkle_theory.specs.Tree as tree
use Rattle.merkle_theory.specs.Tree.{split, later_only, both_after, roots_from_consistency}
use Rattle.merkle_theory.proofs.Laws.{split_pos, consistency-ends_whole, consistency-ends_early, consistency_lacks, consistency-ends_part, consistency_too_long_whole, consistency_too_long_part, consistency-of_fewer, consistency-goes_left, consistency-goes_right}
use Rattle.merkle.specs.declared.digest.Digest.{Digest}
use Rattle.merkle.specs.declared.roots.Roots.{Roots}
use Rattle.merkle.specs.declared.way.Way.{Way}
use Rattle.merkle.specs.Digests.{node_of}
use Rattle.merkle.specs.Ways.{AtRoot, Below, Down, climbed}
use Rattle.merkle.specs.Consistency.{roots_of, as_roots, both, over_proof, roots_above, TurnsToLast}
use Rattle.merkle.proofs.Sizes.{left_of_few}
use Rattle.merkle.proofs.Climbing.{OnWay, on_root, on_down, all_down, on_end, on_fixed, none_left, one_left, climbed_as}

abbrev follow : ℕ → ℕ → Bool → Digest → List Digest → Option (tree.Roots Digest)
follow m n whole old ps = roots_from_consistency node_of m n whole old ps

abbrev proof_up : Bool → Digest → Option (tree.Roots Digest) → Option (tree.Roots Digest)
proof_up true p o = both_after node_of p o
proof_up false p o = later_only node_of p o

none_up : (side : Bool) (p : Digest) → proof_up side p None ≡ None
none_up true p = refl
none_up false p = refl

some_up : (side : Bool) (p : Digest) (r : Roots) → Some (roots_of (over_proof side p r)) ≡ proof_up side p (Some (roots_of r))
some_up true p r = refl
some_up false p r = refl

-- where the way ends, one digest must be left of a part, and none of the whole
part_refused : (n : ℕ) (old : Digest) (ps : List Digest) → (length ps ≡ 1 → ⊥) → follow n n false old ps ≡ None
part_refused n old [] h = consistency_lacks node_of n n old
part_refused n old (p ∷ []) h = absurd (h refl)
part_refused n old (p ∷ (q ∷ ps)) h = consistency_too_long_part node_of n old p q ps

whole_refused : (n : ℕ) (old : Digest) (ps : List Digest) → (length ps ≡ 0 → ⊥) → follow n n true old ps ≡ None
whole_refused n old [] h = absurd (h refl)
whole_refused n old (p ∷ ps) h = consistency_too_long_whole node_of n old p ps

-- Of no entries, a proof leads nowhere but to no entries.
split_some : (n : ℕ) → 0 < n → 0 < split n
split_some n h = elim (cases_lt n 2) [ inl few ↦ omega (arith, left_of_few n few) | inr many ↦ split_pos n many ]

pub none_before_some : (n : ℕ) (whole : Bool) (old : Digest) (ps : List Digest) → 0 < n → follow 0 n whole old ps ≡ None
none_before_some n whole old [] h = consistency-ends_early node_of 0 n whole old (λ e. omega arith)
none_before_some n whole old (p ∷ ps) h =
    consistency-goes_left node_of 0 n whole old p ps h (omega arith)
    ∙ ap (later_only node_of p) (none_before_some (split n) whole old ps (split_some n h))

pub from_none : (n : ℕ) (old : Digest) (ps : List Digest) → n ≡ 0 → follow 0 n true old ps ≡ as_roots (then_some (eqb (length ps) 0) (both old))
from_none n old [] e = ap (λ k. follow 0 k true old []) e ∙ consistency-ends_whole node_of 0 old
from_none n old (p ∷ ps) e =
    ap (λ k. follow 0 k true old (p ∷ ps)) e
    ∙ (whole_refused 0 old (p ∷ ps) (λ z. omega arith) ∙ sym (ap (λ b. as_roots (then_some b (both old))) (ne_eqb (length (p ∷ ps)) 0 (λ z. omega arith))))

pub proof_outside : (n m levels : ℕ) → n ≤ m → TurnsToLast n m levels None
proof_outside n m levels h old proof l = consistency-of_fewer node_of (m + 1) n true old proof (omega arith)

-- what a proof leads to, where the way is: it went left only as long as there are no turns
abbrev rest : Digest → ℕ → ℕ → ℕ → List Digest → Option (tree.Roots Digest)
rest old n m t ps = follow (m + 1) n (eqb t 0) old ps

abbrev pub OnProof : ℕ → ℕ → ℕ → Way → Type 0
OnProof n m levels w = (old : Digest) → OnWay proof_up (rest old) (follow (m + 1) n true old) levels w

left_whole : (t : ℕ) → eqb t 0 ≡ eqb (t * 2) 0
left_whole t = elim (cases_eq t 0) [
  | inl e ↦ eq-eqb t 0 e ∙ sym (eq-eqb (t * 2) 0 (omega arith))
  | inr e ↦ ne_eqb t 0 e ∙ sym (ne_eqb (t * 2) 0 (λ z. e (omega arith)))
]

right_part : (t : ℕ) → false ≡ eqb (t * 2 + 1) 0
right_part t = sym (ne_eqb (t * 2 + 1) 0 (λ e. omega arith))

-- the digests that a proof has, if its way ends at w
abbrev pub length_at : Way → ℕ
length_at w = cond (ltb 0 w.turns) (w.levels + 1) w.levels

pub above_whole : (t : ℕ) (old : Digest) (proof : List Digest) → t ≡ 0 → climbed over_proof t (reverse proof) (both old) ≡ roots_above t old (reverse proof)
above_whole t old proof e = whole (reverse proof)
  where
    whole : (rs : List Digest) → climbed over_proof t rs (both old) ≡ roots_above t old rs
    whole [] = refl
    whole (p ∷ rs) = rw (le-ltb 0 t (omega arith))

pub above_part : (t : ℕ) (old p : Digest) (proof qs : List Digest) → (t ≡ 0 → ⊥) → proof ≡ qs ++ (p ∷ []) → climbed over_proof t (reverse qs) (both p) ≡ roots_above t old (reverse proof)
above_part t old p proof qs h e =
    let reversed : reverse proof ≡ p ∷ reverse qs = ap reverse e ∙ reverse-append qs (p ∷ []) in
    let part : ltb 0 t ≡ true = lt-ltb 0 t (omega arith) in
    rw (reversed, part)

pub above_none : (t : ℕ) (old : Digest) (proof : List Digest) → length proof ≡ 0 → both old ≡ roots_above t old (reverse proof)
above_none t old [] e = refl
above_none t old (p ∷ ps) e = absurd (omega arith)

module _ (n m levels : ℕ) (w : Way) (known : OnProof n m levels w) where
  pub proof_short : (w.place + 1 ≡ w.count → ⊥) → w.levels ≡ levels → TurnsToLast n m levels None
  proof_short inner e old proof l =
      on_fixed proof_up (rest old) (follow (m + 1) n true old) levels w None none_up (known old) proof l
      (ap (rest old w.count w.place w.turns) (none_left proof w.levels levels l e)
      ∙ consistency-ends_early node_of (w.place + 1) w.count (eqb w.turns 0) old inner)

  pub proof_down : (v : Way) → (w.place + 1 ≡ w.count → ⊥) → w.levels < levels → Below w v → OnProof n m levels v
  proof_down v inner more down old =
      let before : w.place + 1 < w.count = omega arith in
      on_down proof_up (rest old) (follow (m + 1) n true old) levels w v more down
      (λ p ps here. consistency-goes_left node_of (w.place + 1) w.count (eqb w.turns 0) old p ps before (omega arith)
      ∙ ap (λ b. later_only node_of p (follow (w.place + 1) (split w.count) b old ps)) (left_whole w.turns))
      (λ p ps here. let e : w.place + 1 - split w.count ≡ w.place - split w.count + 1 = omega arith in
      consistency-goes_right node_of (w.place + 1) w.count (eqb w.turns 0) old p ps before (omega arith)
      ∙ ap₂ (λ a b. both_after node_of p (follow a (w.count - split w.count) b old ps)) e (right_part w.turns))
      (known old)

  -- at the end the rest is of as many as there are, a whole tree or a part
  at_end : w.place + 1 ≡ w.count → (old : Digest) (ps : List Digest) (whole : Bool) → eqb w.turns 0 ≡ whole →
      rest old w.count w.place w.turns ps ≡ follow w.count w.count whole old ps
  at_end e old ps whole b = ap₂ (λ a c. follow a w.count c old ps) e b

  pub proof_right : w.place + 1 ≡ w.count → length_at w ≡ levels → TurnsToLast n m levels (Some w.turns)
  proof_right end fits old proof l = elim (cases_lt 0 w.turns) [
    | inl part ↦
        let (p, dropped, ends) = one_left proof w.levels (l ∙ (sym fits ∙ rw (lt-ltb 0 w.turns part))) in
        known old proof l
        ∙ (ap (climbed proof_up w.turns (reverse (take w.levels proof)))
        (ap (rest old w.count w.place w.turns) dropped
        ∙ (at_end end old (p ∷ []) false (ne_eqb w.turns 0 (λ z. omega arith)) ∙ consistency-ends_part node_of w.count old p))
        ∙ (climbed_as over_proof proof_up (λ r. Some (roots_of r)) some_up w.turns (reverse (take w.levels proof)) (both p)
        ∙ ap (λ r. Some (roots_of r)) (above_part w.turns old p proof (take w.levels proof) (λ z. omega arith) ends)))
    | inr whole ↦
        on_end proof_up (rest old) (follow (m + 1) n true old) levels w (sym (rw (le-ltb 0 w.turns whole)) ∙ fits) (known old) proof l
        ∙ (ap (climbed proof_up w.turns (reverse proof)) (at_end end old [] true (eq-eqb w.turns 0 (omega arith)) ∙ consistency-ends_whole node_of w.count old)
        ∙ (climbed_as over_proof proof_up (λ r. Some (roots_of r)) some_up w.turns (reverse proof) (both old)
        ∙ ap (λ r. Some (roots_of r)) (above_whole w.turns old proof (omega arith))))
  ]

  pub proof_wrong : w.place + 1 ≡ w.count → (length_at w ≡ levels → ⊥) → w.levels ≤ levels → TurnsToLast n m levels None
  proof_wrong end unfit within old proof l =
      on_fixed proof_up (rest old) (follow (m + 1) n true old) levels w None none_up (known old) proof l (elim (cases_lt 0 w.turns) [
        | inl part ↦
            at_end end old (drop w.levels proof) false (ne_eqb w.turns 0 (λ z. omega arith))
            ∙ part_refused w.count old (drop w.levels proof) (λ one. unfit (rw (lt-ltb 0 w.turns part) (omega (arith, length-drop w.levels proof))))
        | inr whole ↦
            at_end end old (drop w.levels proof) true (eq-eqb w.turns 0 (omega arith))
            ∙ whole_refused w.count old (drop w.levels proof) (λ none. unfit (rw (le-ltb 0 w.turns whole) (omega (arith, length-drop w.levels proof))))
      ])

-- all the way down, from the root on
pub proof_reached : (P : Way → Type 0) (n m levels : ℕ) → ((w : Way) → P w → w.place + 1 ≡ w.count → ⊥) → (w v : Way) → AtRoot n m w → Down P w v → v.levels ≤ levels → OnProof n m levels v
proof_reached P n m levels inner w v root (k, downs) =
    λ l. all_down P (OnProof n m levels) levels (λ w v p more below known. proof_down n m levels w known v (inner w p) more below) k w v downs l
    (λ old. on_root proof_up (rest old) (follow (m + 1) n true old) levels n m w root (λ ps. refl))

pub proof_fits : (n m levels : ℕ) (w : Way) → OnProof n m levels w → w.place + 1 ≡ w.count → w.levels ≤ levels → TurnsToLast n m levels (then_some (eqb (length_at w) levels) w.turns)
proof_fits n m levels w known end within = elim (cases_eq (length_at w) levels) [
  | inl e ↦ subst (λ b. TurnsToLast n m levels (then_some b w.turns)) (sym (eq-eqb (length_at w) levels e)) (proof_right n m levels w known end e)
  | inr e ↦ subst (λ b. TurnsToLast n m levels (then_some b w.turns)) (sym (ne_eqb (length_at w) levels e)) (proof_wrong n m levels w known end e within)
]
