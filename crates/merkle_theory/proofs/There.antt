-- There is a path for each entry, and a consistency proof from each earlier list.
use Rattle.std.proofs.Common.{◌≡◌, ℕ, zero, suc, ◌-◌, ◌<◌, ◌≤◌, Bool, true, false, List, [], ◌∷◌, length, take, Some, Option, sym, refl, ap, ◌∙◌, subst, ap₂, inl, inr, arith, length-take}
use Rattle.std.proofs.lemmas.List.{take_all, take-take}
use Rattle.std.proofs.lemmas.Bool.{cases_lt, false≢true}
use Rattle.merkle_theory.specs.Tree.{Hashing, Roots, split, root, path, left_of, right_of, root_from_path, later_only, both_after, roots_from_consistency}
use Rattle.merkle_theory.specs.Laws.{PowerOfTwo, left_side, right_side, consistency_from}
use Rattle.merkle_theory.specs.Claims.{Stands, PathThere, ConsistencyThere}
use Rattle.merkle_theory.proofs.Laws.{halves, split_half, split_power, length-left, length-right, root-of_one, root-of_more, root-of_append, path-of_one, path_in_left}
use Rattle.merkle_theory.proofs.Laws.{path_in_right, consistency-is_from, consistency-of_whole, consistency-of_part, consistency_in_left, consistency_in_right, path-ends}
use Rattle.merkle_theory.proofs.Laws.{path-goes_left, path-goes_right, consistency-ends_whole, consistency-ends_part, consistency-goes_left, consistency-goes_right}
use Rattle.merkle_theory.proofs.Sides.{stands_in_front, stands_behind, take_over}

abbrev roots : {D : Type 0} → D → D → Roots D
roots e l = record { earlier = e; later = l }

module _ {A D : Type 0} (H : Hashing A D) where
  only_path : (x : A) (m : ℕ) (y : A) → Stands (x ∷ []) m y → root_from_path H.node 1 m (H.leaf y) (path H m (x ∷ [])) ≡ Some (root H (x ∷ []))
  only_path x zero y (h, e) =
      ap (root_from_path H.node 1 0 (H.leaf y)) (path-of_one H 0 (x ∷ []) (omega arith)) ∙
      (path-ends H.node (H.leaf y) ∙ ap Some (ap H.leaf (sym (e x)) ∙ sym (root-of_one H x)))
  only_path x (suc m) y (h, e) = absurd (omega arith)

  pub path-there : PathThere H
  path-there =
      halves (λ xs. (m : ℕ) (x : A) → Stands xs m x → root_from_path H.node (length xs) m (H.leaf x) (path H m xs) ≡ Some (root H xs))
      (λ m x s. absurd (omega arith))
      only_path
      (λ xs two left right m x s.
      let n = length xs in
      let k = split n in
      elim (cases_lt m k) [
        | inl l ↦
            ap (root_from_path H.node n m (H.leaf x)) (path_in_left H m xs two l) ∙
            (path-goes_left H.node n m (H.leaf x) (root H (right_side xs)) (path H m (left_side xs)) two l ∙
            (ap (left_of H.node (root H (right_side xs)))
            (ap (λ j. root_from_path H.node j m (H.leaf x) (path H m (left_side xs))) (sym (length-left xs two)) ∙ left m x (stands_in_front k xs m x l s)) ∙
            ap Some (sym (root-of_more H xs two))))
        | inr l ↦
            ap (root_from_path H.node n m (H.leaf x)) (path_in_right H m xs two l) ∙
            (path-goes_right H.node n m (H.leaf x) (root H (left_side xs)) (path H (m - k) (right_side xs)) two l ∙
            (ap (right_of H.node (root H (left_side xs)))
            (ap (λ j. root_from_path H.node j (m - k) (H.leaf x) (path H (m - k) (right_side xs))) (sym (length-right xs)) ∙ right (m - k) x (stands_behind k xs m x l s)) ∙
            ap Some (sym (root-of_more H xs two))))
      ])

  -- the roots of the first m and of all
  both_roots : ℕ → List A → Option (Roots D)
  both_roots m ys = Some (roots (root H (take m ys)) (root H ys))

  FromThere : List A → Type 0
  FromThere ys =
      (m : ℕ) (whole : Bool) (old : D) → 0 < m → m ≤ length ys → (whole ≡ true → old ≡ root H (take m ys)) →
      roots_from_consistency H.node m (length ys) whole old (consistency_from H m whole ys) ≡ both_roots m ys

  all_there : (ys : List A) (whole : Bool) (old : D) → (whole ≡ true → old ≡ root H (take (length ys) ys)) →
      roots_from_consistency H.node (length ys) (length ys) whole old (consistency_from H (length ys) whole ys) ≡ both_roots (length ys) ys
  unfolding both_roots
  all_there ys true old is =
      let n = length ys in
      let all : root H ys ≡ root H (take n ys) = ap (root H) (sym (take_all n ys (omega arith))) in
      ap (roots_from_consistency H.node n n true old) (consistency-of_whole H ys) ∙
      (consistency-ends_whole H.node n old ∙ ap Some (ap₂ roots (is refl) (is refl ∙ sym all)))
  all_there ys false old is =
      let n = length ys in
      let all : root H ys ≡ root H (take n ys) = ap (root H) (sym (take_all n ys (omega arith))) in
      ap (roots_from_consistency H.node n n false old) (consistency-of_part H ys) ∙
      (consistency-ends_part H.node n old (root H ys) ∙ ap Some (ap₂ roots all refl))

  -- a front that ends in the right side
  pub root-of_front : (m : ℕ) (ys : List A) → split (length ys) < m → m ≤ length ys → 2 ≤ length ys →
      root H (take m ys) ≡ H.node (root H (left_side ys)) (root H (take (m - split (length ys)) (right_side ys)))
  root-of_front m ys h le two =
      let k = split (length ys) in
      let rest : List A = take (m - k) (right_side ys) in
      let long = length-take (m - k) (right_side ys) in
      let sides = length-right ys in
      let left = length-left ys two in
      let half = split_half (length ys) two in
      ap (root H) (take_over k m ys (omega arith)) ∙
      root-of_append H (left_side ys) rest (subst PowerOfTwo (sym left) (split_power (length ys) two)) (omega arith) (omega arith)

  at_end : (ys : List A) (m : ℕ) (whole : Bool) (old : D) → length ys ≡ m → (whole ≡ true → old ≡ root H (take m ys)) →
      roots_from_consistency H.node m (length ys) whole old (consistency_from H m whole ys) ≡ both_roots m ys
  at_end ys m whole old e =
      subst (λ j. (whole ≡ true → old ≡ root H (take j ys)) → roots_from_consistency H.node j (length ys) whole old (consistency_from H j whole ys) ≡ both_roots j ys)
      e (all_there ys whole old)

  in_left : (ys : List A) → 2 ≤ length ys → FromThere (left_side ys) → (m : ℕ) (whole : Bool) (old : D) → 0 < m → m < length ys → m ≤ split (length ys) →
      (whole ≡ true → old ≡ root H (take m ys)) → roots_from_consistency H.node m (length ys) whole old (consistency_from H m whole ys) ≡ both_roots m ys
  unfolding both_roots FromThere
  in_left ys two left m whole old pos s h is =
      let n = length ys in
      let k = split n in
      let long = length-left ys two in
      let front : root H (take m (left_side ys)) ≡ root H (take m ys) = ap (root H) (take-take m k ys h) in
      ap (roots_from_consistency H.node m n whole old) (consistency_in_left H m whole ys pos s h) ∙
      (consistency-goes_left H.node m n whole old (root H (right_side ys)) (consistency_from H m whole (left_side ys)) s h ∙
      (ap (later_only H.node (root H (right_side ys)))
      (ap (λ j. roots_from_consistency H.node m j whole old (consistency_from H m whole (left_side ys))) (sym long) ∙
      left m whole old pos (omega arith) (λ w. is w ∙ sym front)) ∙
      ap Some (ap₂ roots front (sym (root-of_more H ys two)))))

  in_right : (ys : List A) → 2 ≤ length ys → FromThere (right_side ys) → (m : ℕ) (whole : Bool) (old : D) → m < length ys → split (length ys) < m →
      roots_from_consistency H.node m (length ys) whole old (consistency_from H m whole ys) ≡ both_roots m ys
  unfolding both_roots FromThere
  in_right ys two right m whole old s h =
      let n = length ys in
      let k = split n in
      let long = length-right ys in
      ap (roots_from_consistency H.node m n whole old) (consistency_in_right H m whole ys s h) ∙
      (consistency-goes_right H.node m n whole old (root H (left_side ys)) (consistency_from H (m - k) false (right_side ys)) s h ∙
      (ap (both_after H.node (root H (left_side ys)))
      (ap (λ j. roots_from_consistency H.node (m - k) j false old (consistency_from H (m - k) false (right_side ys))) (sym long) ∙
      right (m - k) false old (omega arith) (omega arith) (λ w. absurd (false≢true w))) ∙
      ap Some (ap₂ roots (sym (root-of_front m ys h (omega arith) two)) (sym (root-of_more H ys two)))))

  from_there : (ys : List A) → FromThere ys
  unfolding FromThere
  from_there =
      halves FromThere
      (λ m whole old pos le is. absurd (omega arith))
      (λ x m whole old pos le is. at_end (x ∷ []) m whole old (omega arith) is)
      (λ ys two left right m whole old pos le is. elim (cases_lt m (length ys)) [
        | inr s ↦ at_end ys m whole old (omega arith) is
        | inl s ↦ elim (cases_lt (split (length ys)) m) [
          | inr h ↦ in_left ys two left m whole old pos s h is
          | inl h ↦ in_right ys two right m whole old s h
        ]
      ])

  pub consistency-there : ConsistencyThere H
  unfolding both_roots FromThere
  consistency-there m ys pos le =
      ap (roots_from_consistency H.node m (length ys) true (root H (take m ys))) (consistency-is_from H m ys) ∙
      from_there ys m true (root H (take m ys)) pos le (λ w. refl)
