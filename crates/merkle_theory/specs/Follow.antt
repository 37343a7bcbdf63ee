-- Which proofs lead where, as rules: the laws of the functions that follow a proof. Assumes nothing.
use Rattle.std.specs.Prelude.{◌≡◌, ℕ, ◌-◌, ◌<◌, ◌≤◌, Bool, true, false, ◌↔◌, List, [], ◌∷◌, Some}
use Rattle.merkle_theory.specs.Tree.{split, roots_from_consistency, PathLeads}

module _ {D : Type 0} (node : D → D → D) where
  -- a path climbs from the digest d at place m of n to a root: d is the root of one,
  -- and else the place is in the left side or in the right one, and the path begins with the other side's root
  pub data Climbs (d : D) : ℕ → ℕ → List D → D → Type 0 where
    at_leaf : Climbs d 1 0 [] d
    in_left : {n m : ℕ} {ps : List D} {p r : D} → 2 ≤ n → m < split n → Climbs d (split n) m ps r → Climbs d n m (p ∷ ps) (node r p)
    in_right : {n m : ℕ} {ps : List D} {p r : D} → 2 ≤ n → split n ≤ m → Climbs d (n - split n) (m - split n) ps r → Climbs d n m (p ∷ ps) (node p r)

  -- a consistency proof joins the root of the first m of n to the root of all n: where m is n both are one root, which is old itself
  -- as long as the way down went left only; and else the first m end in the left side, or only in the right one
  pub data Joins (old : D) : ℕ → ℕ → Bool → List D → D → D → Type 0 where
    at_whole : {n : ℕ} → Joins old n n true [] old old
    at_part : {n : ℕ} {p : D} → Joins old n n false (p ∷ []) p p
    ends_left : {m n : ℕ} {whole : Bool} {ps : List D} {p e l : D} → m < n → m ≤ split n → Joins old m (split n) whole ps e l → Joins old m n whole (p ∷ ps) e (node l p)
    ends_right : {m n : ℕ} {whole : Bool} {ps : List D} {p e l : D} → m < n → split n < m → Joins old (m - split n) (n - split n) false ps e l →
        Joins old m n whole (p ∷ ps) (node p e) (node p l)

  -- following a proof leads to just the roots that it climbs to, or joins
  pub record FollowLaws : Type 0 where
    pub path : (n m : ℕ) (d : D) (ps : List D) (r : D) → PathLeads node n m d ps r ↔ Climbs d n m ps r
    pub consistency : (m n : ℕ) (whole : Bool) (old : D) (ps : List D) (e l : D) →
        (roots_from_consistency node m n whole old ps ≡ Some (record { earlier = e; later = l })) ↔ Joins old m n whole ps e l
