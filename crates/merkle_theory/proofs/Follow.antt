-- Following a proof leads to just the roots that it climbs to, or joins.
use Rattle.std.proofs.Common.{◌≡◌, ℕ, zero, suc, ◌-◌, ◌<◌, ◌≤◌, Bool, true, false, List, [], ◌∷◌, Some, None, Option, sym, refl, ap, ◌∙◌, subst, inl, inr, arith}
use Rattle.std.proofs.lemmas.Bool.{cases_lt, cases_order}
use Rattle.merkle_theory.specs.Tree.{Roots, split, left_of, right_of, root_from_path, later_only, both_after, roots_from_consistency, PathLeads}
use Rattle.merkle_theory.specs.Follow.{Climbs, Joins}
use Rattle.merkle_theory.specs.Follow.Climbs.{at_leaf, in_left, in_right}
use Rattle.merkle_theory.specs.Follow.Joins.{at_whole, at_part, ends_left, ends_right}
use Rattle.merkle_theory.proofs.Laws.{path-ends, path-ends_early, path-ends_outside, path_too_long, path-goes_left, path-goes_right, consistency-ends_whole}
use Rattle.merkle_theory.proofs.Laws.{consistency-ends_early, consistency_lacks, consistency-ends_part, consistency_too_long_whole, consistency_too_long_part}
use Rattle.merkle_theory.proofs.Laws.{consistency-of_fewer, consistency-goes_left, consistency-goes_right}

pub none_not_some : {X : Type 0} (o : Option X) (x : X) → o ≡ None → o ≡ Some x → ⊥
none_not_some o x p q = let z : ◌≡◌ {A = ℕ} 0 1 = cc in omega arith

module _ {D : Type 0} (node : D → D → D) where
  left_climbs : (d : D) (n m : ℕ) (p : D) (ps : List D) (r : D) → 2 ≤ n → m < split n →
      (o : Option D) → ((s : D) → o ≡ Some s → Climbs node d (split n) m ps s) → left_of node p o ≡ Some r → Climbs node d n m (p ∷ ps) r
  left_climbs d n m p ps r two l None up e = absurd (none_not_some None r refl e)
  left_climbs d n m p ps r two l (Some s) up e =
      let is : node s p ≡ r = cc in
      subst (Climbs node d n m (p ∷ ps)) is (in_left two l (up s refl))

  right_climbs : (d : D) (n m : ℕ) (p : D) (ps : List D) (r : D) → 2 ≤ n → split n ≤ m →
      (o : Option D) → ((s : D) → o ≡ Some s → Climbs node d (n - split n) (m - split n) ps s) → right_of node p o ≡ Some r → Climbs node d n m (p ∷ ps) r
  right_climbs d n m p ps r two l None up e = absurd (none_not_some None r refl e)
  right_climbs d n m p ps r two l (Some s) up e =
      let is : node p s ≡ r = cc in
      subst (Climbs node d n m (p ∷ ps)) is (in_right two l (up s refl))

  pub climbs_if_leads : (n m : ℕ) (d : D) (ps : List D) (r : D) → PathLeads node n m d ps r → Climbs node d n m ps r
  climbs_if_leads zero m d [] r e = absurd (none_not_some _ r (path-ends_outside node 0 m d (omega arith)) e)
  climbs_if_leads (suc zero) zero d [] r e =
      let ends = path-ends node d in
      let is : d ≡ r = cc in
      subst (Climbs node d 1 0 []) is at_leaf
  climbs_if_leads (suc zero) (suc m) d [] r e = absurd (none_not_some _ r (path-ends_outside node 1 (suc m) d (omega arith)) e)
  climbs_if_leads (suc (suc n)) m d [] r e = absurd (none_not_some _ r (path-ends_early node (suc (suc n)) m d (omega arith)) e)
  climbs_if_leads n m d (p ∷ ps) r e = elim (cases_lt n 2) [
    | inl s ↦ absurd (none_not_some _ r (path_too_long node n m d p ps s) e)
    | inr two ↦ elim (cases_lt m (split n)) [
      | inl l ↦ left_climbs d n m p ps r two l (root_from_path node (split n) m d ps) (climbs_if_leads (split n) m d ps) (sym (path-goes_left node n m d p ps two l) ∙ e)
      | inr l ↦
          right_climbs d n m p ps r two l (root_from_path node (n - split n) (m - split n) d ps) (climbs_if_leads (n - split n) (m - split n) d ps)
          (sym (path-goes_right node n m d p ps two l) ∙ e)
    ]
  ]

  pub leads_if_climbs : {d : D} {n m : ℕ} {ps : List D} {r : D} → Climbs node d n m ps r → PathLeads node n m d ps r
  leads_if_climbs {d = d} at_leaf = path-ends node d
  leads_if_climbs {d = d} (in_left {n = n} {m = m} {ps = ps} {p = p} two l up) = path-goes_left node n m d p ps two l ∙ ap (left_of node p) (leads_if_climbs up)
  leads_if_climbs {d = d} (in_right {n = n} {m = m} {ps = ps} {p = p} two l up) = path-goes_right node n m d p ps two l ∙ ap (right_of node p) (leads_if_climbs up)

  left_joins : (old : D) (m n : ℕ) (whole : Bool) (p : D) (ps : List D) (e l : D) → m < n → m ≤ split n →
      (o : Option (Roots D)) → ((c k : D) → o ≡ Some (record { earlier = c; later = k }) → Joins node old m (split n) whole ps c k) →
      later_only node p o ≡ Some (record { earlier = e; later = l }) → Joins node old m n whole (p ∷ ps) e l
  left_joins old m n whole p ps e l s h None up is = absurd (none_not_some None _ refl is)
  left_joins old m n whole p ps e l s h (Some r) up is =
      let same : ◌≡◌ {A = Roots D} (record { earlier = r.earlier; later = node r.later p }) (record { earlier = e; later = l }) = cc in
      subst (λ (q : Roots D). Joins node old m n whole (p ∷ ps) q.earlier q.later) same (ends_left s h (up r.earlier r.later refl))

  right_joins : (old : D) (m n : ℕ) (whole : Bool) (p : D) (ps : List D) (e l : D) → m < n → split n < m →
      (o : Option (Roots D)) → ((c k : D) → o ≡ Some (record { earlier = c; later = k }) → Joins node old (m - split n) (n - split n) false ps c k) →
      both_after node p o ≡ Some (record { earlier = e; later = l }) → Joins node old m n whole (p ∷ ps) e l
  right_joins old m n whole p ps e l s h None up is = absurd (none_not_some None _ refl is)
  right_joins old m n whole p ps e l s h (Some r) up is =
      let same : ◌≡◌ {A = Roots D} (record { earlier = node p r.earlier; later = node p r.later }) (record { earlier = e; later = l }) = cc in
      subst (λ (q : Roots D). Joins node old m n whole (p ∷ ps) q.earlier q.later) same (ends_right s h (up r.earlier r.later refl))

  all_joins : (n : ℕ) (whole : Bool) (old : D) (ps : List D) (e l : D) → roots_from_consistency node n n whole old ps ≡ Some (record { earlier = e; later = l }) →
      Joins node old n n whole ps e l
  all_joins n true old [] e l is =
      let ends = consistency-ends_whole node n old in
      let same : ◌≡◌ {A = Roots D} (record { earlier = old; later = old }) (record { earlier = e; later = l }) = cc in
      subst (λ (q : Roots D). Joins node old n n true [] q.earlier q.later) same at_whole
  all_joins n true old (p ∷ ps) e l is = absurd (none_not_some _ _ (consistency_too_long_whole node n old p ps) is)
  all_joins n false old [] e l is = absurd (none_not_some _ _ (consistency_lacks node n n old) is)
  all_joins n false old (p ∷ []) e l is =
      let ends = consistency-ends_part node n old p in
      let same : ◌≡◌ {A = Roots D} (record { earlier = p; later = p }) (record { earlier = e; later = l }) = cc in
      subst (λ (q : Roots D). Joins node old n n false (p ∷ []) q.earlier q.later) same at_part
  all_joins n false old (p ∷ (q ∷ ps)) e l is = absurd (none_not_some _ _ (consistency_too_long_part node n old p q ps) is)

  equal_joins : (m n : ℕ) (whole : Bool) (old : D) (ps : List D) (e l : D) → m ≡ n →
      roots_from_consistency node m n whole old ps ≡ Some (record { earlier = e; later = l }) → Joins node old m n whole ps e l
  equal_joins m n whole old ps e l s =
      subst (λ k. roots_from_consistency node m k whole old ps ≡ Some (record { earlier = e; later = l }) → Joins node old m k whole ps e l) s
      (all_joins m whole old ps e l)

  pub joins_if_leads : (m n : ℕ) (whole : Bool) (old : D) (ps : List D) (e l : D) →
      roots_from_consistency node m n whole old ps ≡ Some (record { earlier = e; later = l }) → Joins node old m n whole ps e l
  joins_if_leads m n whole old [] e l is = elim (cases_order m n) [
    | inl s ↦ equal_joins m n whole old [] e l s is
    | inr (inl s) ↦ absurd (none_not_some _ _ (consistency-ends_early node m n whole old (omega arith)) is)
    | inr (inr s) ↦ absurd (none_not_some _ _ (consistency-of_fewer node m n whole old [] s) is)
  ]
  joins_if_leads m n whole old (p ∷ ps) e l is = elim (cases_order m n) [
    | inl s ↦ equal_joins m n whole old (p ∷ ps) e l s is
    | inr (inr s) ↦ absurd (none_not_some _ _ (consistency-of_fewer node m n whole old (p ∷ ps) s) is)
    | inr (inl s) ↦ elim (cases_lt (split n) m) [
      | inl h ↦
          right_joins old m n whole p ps e l s h (roots_from_consistency node (m - split n) (n - split n) false old ps) (joins_if_leads (m - split n) (n - split n) false old ps)
          (sym (consistency-goes_right node m n whole old p ps s h) ∙ is)
      | inr h ↦
          left_joins old m n whole p ps e l s h (roots_from_consistency node m (split n) whole old ps) (joins_if_leads m (split n) whole old ps)
          (sym (consistency-goes_left node m n whole old p ps s h) ∙ is)
    ]
  ]

  pub leads_if_joins : {old : D} {m n : ℕ} {whole : Bool} {ps : List D} {e l : D} → Joins node old m n whole ps e l →
      roots_from_consistency node m n whole old ps ≡ Some (record { earlier = e; later = l })
  leads_if_joins {old = old} (at_whole {n = n}) = consistency-ends_whole node n old
  leads_if_joins {old = old} (at_part {n = n} {p = p}) = consistency-ends_part node n old p
  leads_if_joins {old = old} (ends_left {m = m} {n = n} {whole = whole} {ps = ps} {p = p} s h down) =
      consistency-goes_left node m n whole old p ps s h ∙ ap (later_only node p) (leads_if_joins down)
  leads_if_joins {old = old} (ends_right {m = m} {n = n} {whole = whole} {ps = ps} {p = p} s h down) =
      consistency-goes_right node m n whole old p ps s h ∙ ap (both_after node p) (leads_if_joins down)
