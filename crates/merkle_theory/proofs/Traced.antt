-- The tree over digests that keep their texts has the same digests.
use Rattle.std.proofs.Common.{◌≡◌, ℕ, ◌-◌, ◌<◌, ◌≤◌, true, List, [], ◌∷◌, ◌++◌, map, length, Some, None, Option, sym, refl, ap, ◌∙◌, ap₂}
use Rattle.std.specs.Option.{option_map}
use Rattle.std.proofs.lemmas.List.{map-id, append-nil}
use Rattle.merkle_theory.specs.Tree.{Hashing, Roots, split, root, path, consistency, left_of, right_of, root_from_path, roots_from_consistency, PathLeads}
use Rattle.merkle_theory.specs.Laws.{left_side, right_side}
use Rattle.merkle_theory.specs.Carried.{on_roots, Homomorphism}
use Rattle.merkle_theory.specs.Texts.{Texts, hashing, Traced, outside, hashed_for, entry_leaf, tracing, tracing_entries, tracing_leaves, root_texts, row_texts, follow_texts, TextLaws, FollowTextLaws}
use Rattle.merkle_theory.proofs.Laws.{root-of_none, root-of_one, root-of_more, path-ends, path-goes_left, path-goes_right}
use Rattle.merkle_theory.proofs.Follow.{none_not_some}
use Rattle.merkle_theory.proofs.Carried.{root_carried, path_carried, consistency_carried, path-leads_carried, consistency-leads_carried}

pub mapped_some : {X Y : Type 0} (f : X → Y) (o : Option X) (y : Y) → option_map f o ≡ Some y → (x : X) × (o ≡ Some x) × (f x ≡ y)
mapped_some f None y e = absurd (none_not_some None y refl e)
mapped_some f (Some x) y e = (x, refl, cc)

module _ {A B D X : Type 0} (t : Texts B D X) (leaf : A → Traced D X) where
  -- the same tree without texts
  abbrev pub untraced : Hashing A D
  untraced = record { none = t.hash t.empty; leaf = λ x. (leaf x).digest; node = λ a b. t.hash (t.of_node a b) }

  abbrev pub digests_of : List (Traced D X) → List D
  digests_of = map (λ (p : Traced D X). p.digest)

  digest_is_homomorphism : Homomorphism (tracing t leaf) untraced (λ (d : Traced D X). d.digest) (λ (x : A). x)
  digest_is_homomorphism = record { of_none = refl; of_leaf = λ x. refl; of_node = λ a b. refl }

  pub root_traced : (xs : List A) → root untraced xs ≡ (root (tracing t leaf) xs).digest
  root_traced xs = ap (root untraced) (sym (map-id xs)) ∙ root_carried (tracing t leaf) untraced (λ (d : Traced D X). d.digest) (λ (x : A). x) digest_is_homomorphism xs

  pub path_traced : (m : ℕ) (xs : List A) → path untraced m xs ≡ digests_of (path (tracing t leaf) m xs)
  path_traced m xs =
      ap (path untraced m) (sym (map-id xs)) ∙ path_carried (tracing t leaf) untraced (λ (d : Traced D X). d.digest) (λ (x : A). x) digest_is_homomorphism xs m

  pub consistency_traced : (m : ℕ) (ys : List A) → consistency untraced m ys ≡ digests_of (consistency (tracing t leaf) m ys)
  consistency_traced m ys =
      ap (consistency untraced m) (sym (map-id ys)) ∙ consistency_carried (tracing t leaf) untraced (λ (d : Traced D X). d.digest) (λ (x : A). x) digest_is_homomorphism m ys

  pub digests_of_outside : (ps : List D) → digests_of (map outside ps) ≡ ps
  digests_of_outside [] = refl
  digests_of_outside (p ∷ ps) = ap (◌∷◌ p) (digests_of_outside ps)

  pub path-leads_traced : (n m : ℕ) (d : Traced D X) (ps : List D) (r : D) → PathLeads untraced.node n m d.digest ps r →
      (s : Traced D X) × (root_from_path (tracing t leaf).node n m d (map outside ps) ≡ Some s) × (s.digest ≡ r)
  path-leads_traced n m d ps r e =
      mapped_some (λ (s : Traced D X). s.digest) (root_from_path (tracing t leaf).node n m d (map outside ps)) r
      (sym (path-leads_carried (tracing t leaf).node untraced.node (λ (s : Traced D X). s.digest) (λ a b. refl) n m d (map outside ps)) ∙
      (ap (root_from_path untraced.node n m d.digest) (digests_of_outside ps) ∙ e))

  pub consistency-leads_traced : (m n : ℕ) (old : Traced D X) (ps : List D) (e l : D) →
      roots_from_consistency untraced.node m n true old.digest ps ≡ Some (record { earlier = e; later = l }) →
      (r : Roots (Traced D X)) × (roots_from_consistency (tracing t leaf).node m n true old (map outside ps) ≡ Some r) × (on_roots (λ (s : Traced D X). s.digest) r ≡ record { earlier = e; later = l })
  consistency-leads_traced m n old ps e l is =
      mapped_some (on_roots (λ (s : Traced D X). s.digest)) (roots_from_consistency (tracing t leaf).node m n true old (map outside ps)) (record { earlier = e; later = l })
      (sym (consistency-leads_carried (tracing t leaf).node untraced.node (λ (s : Traced D X). s.digest) (λ a b. refl) m n true old (map outside ps)) ∙
      (ap (roots_from_consistency untraced.node m n true old.digest) (digests_of_outside ps) ∙ is))

  -- the texts of a root
  pub texts_of_more : (xs : List A) → 2 ≤ length xs →
      (root (tracing t leaf) xs).hashed ≡
      t.of_node (root untraced (left_side xs)) (root untraced (right_side xs)) ∷ ((root (tracing t leaf) (left_side xs)).hashed ++ (root (tracing t leaf) (right_side xs)).hashed)
  texts_of_more xs two =
      ap (λ (d : Traced D X). d.hashed) (root-of_more (tracing t leaf) xs two) ∙
      ap (λ x. x ∷ ((root (tracing t leaf) (left_side xs)).hashed ++ (root (tracing t leaf) (right_side xs)).hashed))
      (ap₂ t.of_node (sym (root_traced (left_side xs))) (sym (root_traced (right_side xs))))

pub text_laws : {A D X : Type 0} (t : Texts A D X) → TextLaws t
unfolding root_texts row_texts
text_laws {D = D} {X = X} t = record {
  of_none = ap (λ (d : Traced D X). d.hashed) (root-of_none (tracing_entries t));
  of_one = λ x. ap (λ (d : Traced D X). d.hashed) (root-of_one (tracing_entries t) x);
  of_more = texts_of_more t (entry_leaf t);
  of_no_leaf = ap (λ (d : Traced D X). d.hashed) (root-of_none (tracing_leaves t));
  of_leaf = λ d. ap (λ (e : Traced D X). e.hashed) (root-of_one (tracing_leaves t) d);
  of_row = texts_of_more t outside;
}

module _ {A D X : Type 0} (t : Texts A D X) where
  texts_in_left : (n m : ℕ) (s : Traced D X) (p r : D) (ps : List D) → 2 ≤ n → m < split n → PathLeads (hashing t).node (split n) m s.digest ps r →
      follow_texts t n m s (p ∷ ps) ≡ t.of_node r p ∷ follow_texts t (split n) m s ps
  unfolding follow_texts
  texts_in_left n m s p r ps two l leads =
      let (d, is, same) = path-leads_traced t (entry_leaf t) (split n) m s ps r leads in
      ap hashed_for (path-goes_left (tracing_entries t).node n m s (outside p) (map outside ps) two l ∙ ap (left_of (tracing_entries t).node (outside p)) is) ∙
      (ap₂ ◌∷◌ (ap (λ a. t.of_node a p) same) (append-nil d.hashed) ∙ ap (λ o. t.of_node r p ∷ hashed_for o) (sym is))

  texts_in_right : (n m : ℕ) (s : Traced D X) (p r : D) (ps : List D) → 2 ≤ n → split n ≤ m → PathLeads (hashing t).node (n - split n) (m - split n) s.digest ps r →
      follow_texts t n m s (p ∷ ps) ≡ t.of_node p r ∷ follow_texts t (n - split n) (m - split n) s ps
  unfolding follow_texts
  texts_in_right n m s p r ps two l leads =
      let (d, is, same) = path-leads_traced t (entry_leaf t) (n - split n) (m - split n) s ps r leads in
      ap hashed_for (path-goes_right (tracing_entries t).node n m s (outside p) (map outside ps) two l ∙ ap (right_of (tracing_entries t).node (outside p)) is) ∙
      (ap (λ a. t.of_node p a ∷ d.hashed) same ∙ ap (λ o. t.of_node p r ∷ hashed_for o) (sym is))

  pub follow_text_laws : FollowTextLaws t
  unfolding follow_texts
  follow_text_laws = record { at_leaf = λ s. ap hashed_for (path-ends (tracing_entries t).node s); in_left = texts_in_left; in_right = texts_in_right }
