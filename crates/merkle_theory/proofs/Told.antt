-- What roots and proofs of digests without texts tell, or else two of the texts that are hashed for them collide.
use Rattle.std.proofs.Common.{◌≡◌, ℕ, ◌<◌, true, ◌⊎◌, List, ◌++◌, map, length, Option, sym, refl, ap, ◌∙◌, subst, inl, inr}
use mathlib.Core.List.Memᴰ
use Rattle.std.specs.List.{AllByRecursion}
use Rattle.std.proofs.ByRecursion.{All-map}
use Rattle.merkle_theory.specs.Tree.{Roots, root, path, consistency, root_from_path, roots_from_consistency, PathLeads, ConsistencyLeads}
use Rattle.merkle_theory.specs.Claims.{Stands, Begins}
use Rattle.merkle_theory.specs.Texts.{Texts, Collision, Traced, outside, hashed_for, hashed_for_both, tracing, entry_leaf, root_texts, row_texts, follow_texts, consistency_texts}
use Rattle.merkle_theory.specs.Tells.{RootTells, PathTells, ConsistencyTells, RowTells, RowPathTells, RowConsistencyTells}
use Rattle.merkle_theory.proofs.Laws.{consistency-is_from}
use Rattle.merkle_theory.proofs.Follow.{climbs_if_leads, joins_if_leads}
use Rattle.merkle_theory.proofs.Traced.{untraced, digests_of, root_traced, path_traced, consistency_traced, digests_of_outside, path-leads_traced, consistency-leads_traced}
use Rattle.merkle_theory.proofs.RootTells.{Lawful, Leaves, Apart, Within, Any, any, with, entries_tell, entries_apart, digests_tell, seen, top_good, root-tells}
use Rattle.merkle_theory.proofs.ProofsTell.{path-tells, consistency-tells}

within_front : {X : Type 0} (us vs : List X) → Within us (us ++ vs)
within_front us vs u = Memᴰ.append_left vs

within_behind : {X : Type 0} (us vs : List X) → Within vs (us ++ vs)
within_behind us vs u = Memᴰ.append_right us

module _ {A B D X : Type 0} (t : Texts B D X) (leaf : A → Traced D X) (Good : D → Type 0) (Fit : A → Type 0) (law : Lawful t Good) (leaves : Leaves t leaf Good Fit) where
  good_outside : (ps : List D) → AllByRecursion Good ps → AllByRecursion (λ (p : Traced D X). Good p.digest) (map outside ps)
  good_outside = All-map (λ (p : Traced D X). Good p.digest) outside

  root_told : (xs ys : List A) → AllByRecursion Fit xs → AllByRecursion Fit ys → (length xs ≡ length ys) ⊎ Apart t leaf → root (untraced t leaf) xs ≡ root (untraced t leaf) ys →
      (xs ≡ ys) ⊎ Collision t (seen t leaf xs ++ seen t leaf ys)
  root_told xs ys fx fy apart e =
      root-tells t leaf Good Fit law leaves (seen t leaf xs ++ seen t leaf ys) xs ys fx fy apart (sym (root_traced t leaf xs) ∙ (e ∙ root_traced t leaf ys))
      (within_front (seen t leaf xs) (seen t leaf ys)) (within_behind (seen t leaf xs) (seen t leaf ys))

  path-told : (xs : List A) (m : ℕ) (x : A) (ps : List D) → AllByRecursion Fit xs → Fit x → AllByRecursion Good ps →
      PathLeads (untraced t leaf).node (length xs) m (leaf x).digest ps (root (untraced t leaf) xs) →
      (Stands xs m x × (ps ≡ path (untraced t leaf) m xs)) ⊎
      Collision t (seen t leaf xs ++ hashed_for (root_from_path (tracing t leaf).node (length xs) m (leaf x) (map outside ps)))
  path-told xs m x ps fx f gs leads =
      let (r, is, same) = path-leads_traced t leaf (length xs) m (leaf x) ps (root (untraced t leaf) xs) leads in
      let us : List X = seen t leaf xs in
      let vs : List X = hashed_for (root_from_path (tracing t leaf).node (length xs) m (leaf x) (map outside ps)) in
      with
      (path-tells t leaf Good Fit law leaves (us ++ vs) x f (climbs_if_leads (tracing t leaf).node (length xs) m (leaf x) (map outside ps) r is) xs refl fx (good_outside ps gs)
      (same ∙ root_traced t leaf xs)
      (subst (λ o. Within (hashed_for o) (us ++ vs)) is (within_behind us vs))
      (within_front us vs))
      (λ (s, path-is). inl (s, sym (digests_of_outside t leaf ps) ∙ (path-is ∙ sym (path_traced t leaf m xs))))

  consistency-told : (xs ys : List A) (ps : List D) → 0 < length xs → AllByRecursion Fit xs → AllByRecursion Fit ys → AllByRecursion Good ps →
      ConsistencyLeads (untraced t leaf).node (length xs) (length ys) (root (untraced t leaf) xs) (root (untraced t leaf) ys) ps →
      (Begins xs ys × (ps ≡ consistency (untraced t leaf) (length xs) ys)) ⊎
      Collision t (seen t leaf xs ++ (seen t leaf ys ++
      hashed_for_both (roots_from_consistency (tracing t leaf).node (length xs) (length ys) true (outside (root (untraced t leaf) xs)) (map outside ps))))
  consistency-told xs ys ps pos fx fy gs leads =
      let old : Traced D X = outside (root (untraced t leaf) xs) in
      let o : Option (Roots (Traced D X)) = roots_from_consistency (tracing t leaf).node (length xs) (length ys) true old (map outside ps) in
      let us : List X = seen t leaf xs in
      let vs : List X = seen t leaf ys in
      let ws : List X = hashed_for_both o in
      let (r, is, same) = consistency-leads_traced t leaf (length xs) (length ys) old ps (root (untraced t leaf) xs) (root (untraced t leaf) ys) leads in
      let both : Within (r.earlier.hashed ++ r.later.hashed) (us ++ (vs ++ ws)) =
      subst (λ q. Within (hashed_for_both q) (us ++ (vs ++ ws))) is (λ u h. within_behind us (vs ++ ws) u (within_behind vs ws u h)) in
      with
      (consistency-tells t leaf Good Fit law leaves (us ++ (vs ++ ws))
      {old = old} (subst Good (sym (root_traced t leaf xs)) (top_good t leaf Good Fit law leaves us xs fx))
      (joins_if_leads (tracing t leaf).node (length xs) (length ys) true old (map outside ps) r.earlier r.later is) xs ys refl refl pos fx fy (good_outside ps gs)
      (ap (λ (q : Roots D). q.earlier) same ∙ root_traced t leaf xs) (ap (λ (q : Roots D). q.later) same ∙ root_traced t leaf ys)
      (λ u h. both u (within_front r.earlier.hashed r.later.hashed u h))
      (λ u h. both u (within_behind r.earlier.hashed r.later.hashed u h))
      (within_front us (vs ++ ws))
      (λ u h. within_behind us (vs ++ ws) u (within_front vs ws u h)))
      (λ (begins, proof-is).
      inl (
        begins,
        sym (digests_of_outside t leaf ps) ∙
            (proof-is ∙ (ap (digests_of t leaf) (sym (consistency-is_from (tracing t leaf) (length xs) ys)) ∙ sym (consistency_traced t leaf (length xs) ys))),
      ))

-- over entries, and over leaf digests alone
module _ {A D X : Type 0} (t : Texts A D X) (Good : D → Type 0) (law : Lawful t Good) where
  pub root-told_of_entries : RootTells t
  unfolding root_texts
  root-told_of_entries xs ys = root_told t (entry_leaf t) Good Any law (entries_tell t Good law) xs ys (any xs) (any ys) (inr (entries_apart t Good law))

  pub path-told_of_entries : PathTells t Good
  unfolding root_texts follow_texts
  path-told_of_entries xs m x ps = path-told t (entry_leaf t) Good Any law (entries_tell t Good law) xs m x ps (any xs) tt

  pub consistency-told_of_entries : ConsistencyTells t Good
  unfolding root_texts consistency_texts
  consistency-told_of_entries xs ys ps pos = consistency-told t (entry_leaf t) Good Any law (entries_tell t Good law) xs ys ps pos (any xs) (any ys)

  pub root-told_of_rows : RowTells t Good
  unfolding row_texts
  root-told_of_rows cs ds gc gd l = root_told t outside Good Good law (digests_tell t Good law) cs ds gc gd (inl l)

  pub path-told_of_rows : RowPathTells t Good
  unfolding row_texts follow_texts
  path-told_of_rows = path-told t outside Good Good law (digests_tell t Good law)

  pub consistency-told_of_rows : RowConsistencyTells t Good
  unfolding row_texts consistency_texts
  consistency-told_of_rows = consistency-told t outside Good Good law (digests_tell t Good law)
