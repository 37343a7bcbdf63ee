-- A homomorphism carries the root, both kinds of proof and what they lead to.
use Rattle.std.proofs.Common.{◌≡◌, ℕ, zero, suc, ◌-◌, ◌≤◌, Bool, true, false, cond, ◌&&◌, ◌||◌, eqb, ltb, leb, List, [], ◌∷◌, map, length, Some, None, Option, sym, refl, ap, ◌∙◌, ap₂, inl, inr, arith}
use lib.ListN.{length-map}
use Rattle.std.specs.Option.{option_map}
use Rattle.std.proofs.lemmas.List.{take-map, drop-map}
use Rattle.std.proofs.lemmas.Bool.{cases_lt, cases_eq}
use Rattle.merkle_theory.specs.Tree.{Hashing, Roots, split, root, path, consistency_f, consistency, left_of, right_of, root_from_path, later_only, both_after, alike}
use Rattle.merkle_theory.specs.Tree.{roots_from_consistency}
use Rattle.merkle_theory.specs.Laws.{left_side, right_side}
use Rattle.merkle_theory.specs.Carried.{on_roots, Homomorphism, Carries}
use Rattle.merkle_theory.proofs.Laws.{halves, root-of_none, root-of_one, root-of_more, path-of_one, path_in_left, path_in_right, fuelled_all, fuelled_left, fuelled_right}

on_cond : {X Y : Type 0} (h : X → Y) (b : Bool) (x y : X) → h (cond b x y) ≡ cond b (h x) (h y)
on_cond h true x y = refl
on_cond h false x y = refl

module _ {A B : Type 0} (g : A → B) where
  left_map : (xs : List A) → left_side (map g xs) ≡ map g (left_side xs)
  left_map xs = rw (length-map xs g, take-map g (split (length xs)) xs)

  right_map : (xs : List A) → right_side (map g xs) ≡ map g (right_side xs)
  right_map xs = rw (length-map xs g, drop-map g (split (length xs)) xs)

-- what a proof leads to needs only that nodes are carried
module _ {D E : Type 0} (node : D → D → D) (node' : E → E → E) (f : D → E) (agrees : (a b : D) → f (node a b) ≡ node' (f a) (f b)) where
  carried_left : (p : D) (o : Option D) → option_map f (left_of node p o) ≡ left_of node' (f p) (option_map f o)
  carried_left p None = refl
  carried_left p (Some d) = ap Some (agrees d p)

  carried_right : (p : D) (o : Option D) → option_map f (right_of node p o) ≡ right_of node' (f p) (option_map f o)
  carried_right p None = refl
  carried_right p (Some d) = ap Some (agrees p d)

  pub path-leads_carried : (n m : ℕ) (d : D) (ps : List D) → root_from_path node' n m (f d) (map f ps) ≡ option_map f (root_from_path node n m d ps)
  unfolding root_from_path
  path-leads_carried n m d [] = sym (on_cond (option_map f) (eqb n 1 && eqb m 0) (Some d) None)
  path-leads_carried n m d (p ∷ ps) =
      let k = split n in
      let left = carried_left p (root_from_path node k m d ps) ∙ ap (left_of node' (f p)) (sym (path-leads_carried k m d ps)) in
      let right = carried_right p (root_from_path node (n - k) (m - k) d ps) ∙ ap (right_of node' (f p)) (sym (path-leads_carried (n - k) (m - k) d ps)) in
      sym (on_cond (option_map f) (ltb n 2) None _ ∙ ap (cond (ltb n 2) None) (on_cond (option_map f) (ltb m k) _ _ ∙ ap₂ (cond (ltb m k)) left right))

  carried_later : (p : D) (o : Option (Roots D)) → option_map (on_roots f) (later_only node p o) ≡ later_only node' (f p) (option_map (on_roots f) o)
  carried_later p None = refl
  carried_later p (Some r) = ap Some (λ i. record { earlier = f r.earlier; later = agrees r.later p i })

  carried_both : (p : D) (o : Option (Roots D)) → option_map (on_roots f) (both_after node p o) ≡ both_after node' (f p) (option_map (on_roots f) o)
  carried_both p None = refl
  carried_both p (Some r) = ap Some (λ i. record { earlier = agrees p r.earlier i; later = agrees p r.later i })

  pub consistency-leads_carried : (m n : ℕ) (whole : Bool) (old : D) (ps : List D) →
      roots_from_consistency node' m n whole (f old) (map f ps) ≡ option_map (on_roots f) (roots_from_consistency node m n whole old ps)
  unfolding roots_from_consistency
  consistency-leads_carried m n whole old [] = sym (on_cond (option_map (on_roots f)) (eqb m n && whole) (alike node old) None)
  consistency-leads_carried m n whole old (p ∷ ps) =
      let k = split n in
      let left = carried_later p (roots_from_consistency node m k whole old ps) ∙ ap (later_only node' (f p)) (sym (consistency-leads_carried m k whole old ps)) in
      let right =
      carried_both p (roots_from_consistency node (m - k) (n - k) false old ps) ∙
      ap (both_after node' (f p)) (sym (consistency-leads_carried (m - k) (n - k) false old ps)) in
      let on = on_cond (option_map (on_roots f)) in
      sym
      (on (eqb m n) _ _ ∙
      ap₂ (cond (eqb m n))
      (on (whole || ltb 0 (length ps)) _ _ ∙ rw (length-map ps f))
      (on (ltb m n) _ _ ∙ ap (λ x. cond (ltb m n) x None) (on (leb m k) _ _ ∙ ap₂ (cond (leb m k)) left right)))

module _ {A B D E : Type 0} (H : Hashing A D) (K : Hashing B E) (f : D → E) (g : A → B) (hom : Homomorphism H K f g) where
  pub root_carried : (xs : List A) → root K (map g xs) ≡ f (root H xs)
  root_carried =
      halves (λ xs. root K (map g xs) ≡ f (root H xs))
      (root-of_none K ∙ (sym hom.of_none ∙ ap f (sym (root-of_none H))))
      (λ x. root-of_one K (g x) ∙ (sym (hom.of_leaf x) ∙ ap f (sym (root-of_one H x))))
      (λ xs two left right.
      root-of_more K (map g xs) (omega (arith, length-map xs g)) ∙
      (ap₂ K.node (ap (root K) (left_map g xs) ∙ left) (ap (root K) (right_map g xs) ∙ right) ∙
      (sym (hom.of_node (root H (left_side xs)) (root H (right_side xs))) ∙ ap f (sym (root-of_more H xs two)))))

  left_root_carried : (xs : List A) → root K (left_side (map g xs)) ≡ f (root H (left_side xs))
  left_root_carried xs = ap (root K) (left_map g xs) ∙ root_carried (left_side xs)

  right_root_carried : (xs : List A) → root K (right_side (map g xs)) ≡ f (root H (right_side xs))
  right_root_carried xs = ap (root K) (right_map g xs) ∙ root_carried (right_side xs)

  short_path_carried : (m : ℕ) (xs : List A) → length xs ≤ 1 → path K m (map g xs) ≡ map f (path H m xs)
  short_path_carried m xs h = path-of_one K m (map g xs) (omega (arith, length-map xs g)) ∙ ap (map f) (sym (path-of_one H m xs h))

  pub path_carried : (xs : List A) (m : ℕ) → path K m (map g xs) ≡ map f (path H m xs)
  path_carried =
      halves (λ xs. (m : ℕ) → path K m (map g xs) ≡ map f (path H m xs))
      (λ m. short_path_carried m [] (omega arith))
      (λ x m. short_path_carried m (x ∷ []) (omega arith))
      (λ xs two left right m.
      let long = length-map xs g in
      let there : split (length (map g xs)) ≡ split (length xs) = ap split long in
      elim (cases_lt m (split (length xs))) [
        | inl l ↦
            path_in_left K m (map g xs) (omega arith) (omega arith) ∙
            (ap₂ ◌∷◌ (right_root_carried xs) (ap (path K m) (left_map g xs) ∙ left m) ∙ ap (map f) (sym (path_in_left H m xs two l)))
        | inr l ↦
            path_in_right K m (map g xs) (omega arith) (omega arith) ∙
            (ap₂ ◌∷◌ (left_root_carried xs) (ap₂ (λ k ys. path K (m - k) ys) there (right_map g xs) ∙ right (m - split (length xs))) ∙
            ap (map f) (sym (path_in_right H m xs two l)))
      ])

  fuelled_carried : (fuel m : ℕ) (whole : Bool) (ys : List A) → consistency_f K fuel m whole (map g ys) ≡ map f (consistency_f H fuel m whole ys)
  unfolding consistency_f
  fuelled_carried zero m whole ys = refl
  fuelled_carried (suc fuel) m whole ys =
      let long = length-map ys g in
      let there : split (length (map g ys)) ≡ split (length ys) = ap split long in
      elim (cases_eq m (length ys)) [
        | inl e ↦
            fuelled_all K fuel m whole (map g ys) (omega arith) ∙
            (ap (λ d. cond whole [] (d ∷ [])) (root_carried ys) ∙
            (sym (on_cond (map f) whole [] (root H ys ∷ [])) ∙ ap (map f) (sym (fuelled_all H fuel m whole ys e))))
        | inr ne ↦ elim (cases_lt (split (length ys)) m) [
          | inl l ↦
              fuelled_right K fuel m whole (map g ys) (λ e. ne (e ∙ long)) (omega arith) ∙
              (ap₂ ◌∷◌ (left_root_carried ys)
              (ap₂ (λ k zs. consistency_f K fuel (m - k) false zs) there (right_map g ys) ∙ fuelled_carried fuel (m - split (length ys)) false (right_side ys)) ∙
              ap (map f) (sym (fuelled_right H fuel m whole ys ne l)))
          | inr l ↦
              fuelled_left K fuel m whole (map g ys) (λ e. ne (e ∙ long)) (omega arith) ∙
              (ap₂ ◌∷◌ (right_root_carried ys)
              (ap (consistency_f K fuel m whole) (left_map g ys) ∙ fuelled_carried fuel m whole (left_side ys)) ∙
              ap (map f) (sym (fuelled_left H fuel m whole ys ne l)))
        ]
      ]

  pub consistency_carried : (m : ℕ) (ys : List A) → consistency K m (map g ys) ≡ map f (consistency H m ys)
  unfolding consistency
  consistency_carried m ys =
      ap (λ n. consistency_f K (suc n) m true (map g ys)) (length-map ys g) ∙ fuelled_carried (suc (length ys)) m true ys

  pub carries : Carries H K f g
  carries = record {
    roots = root_carried;
    paths = λ m xs. path_carried xs m;
    consistencies = consistency_carried;
    paths_lead = path-leads_carried H.node K.node f hom.of_node;
    consistencies_lead = consistency-leads_carried H.node K.node f hom.of_node;
  }
