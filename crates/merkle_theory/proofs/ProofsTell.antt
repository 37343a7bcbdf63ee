-- What a path and a consistency proof tell, or else two texts that collide: for the tree over entries and over leaf digests.
use Rattle.std.proofs.Common.{◌≡◌, ℕ, ◌-◌, ◌<◌, ◌≤◌, Bool, true, false, ◌⊎◌, List, [], ◌∷◌, ◌++◌, length, take, sym, ap, ◌∙◌, subst, ap₂, inl, arith, take-append-drop}
use Rattle.std.specs.List.{AllByRecursion}
use Rattle.std.proofs.ByRecursion.{All-take, All-drop}
use Rattle.std.proofs.lemmas.List.{take_all, take-take}
use Rattle.merkle_theory.specs.Tree.{split, root, path}
use Rattle.merkle_theory.specs.Laws.{left_side, right_side, consistency_from}
use Rattle.merkle_theory.specs.Follow.{Climbs, Joins}
use Rattle.merkle_theory.specs.Follow.Climbs.{at_leaf, in_left, in_right}
use Rattle.merkle_theory.specs.Follow.Joins.{at_whole, at_part, ends_left, ends_right}
use Rattle.merkle_theory.specs.Claims.{Stands}
use Rattle.merkle_theory.specs.Texts.{Texts, Collision, Traced, tracing}
use Rattle.merkle_theory.proofs.Laws.{split_pos, split_half, split_power, split_unique, length-left, length-right, path-of_one, path_in_left, path_in_right}
use Rattle.merkle_theory.proofs.Laws.{consistency-of_whole, consistency-of_part, consistency_in_left, consistency_in_right}
use Rattle.merkle_theory.proofs.Sides.{Shape, shape, stands_if_in_front, stands_if_behind, take_over}
use Rattle.merkle_theory.proofs.Sides.Shape.{none, one, more}
use Rattle.merkle_theory.proofs.Traced.{digests_of}
use Rattle.merkle_theory.proofs.RootTells.{Lawful, Leaves, Within, with, within_first, within_left, within_right, tells_node, top, seen, top_one, top_more, seen_one}
use Rattle.merkle_theory.proofs.RootTells.{seen_more, top_good, root-tells}

module _ {A B D X : Type 0} (t : Texts B D X) (leaf : A → Traced D X) (Good : D → Type 0) (Fit : A → Type 0) (law : Lawful t Good) (leaves : Leaves t leaf Good Fit) (ts : List X) where
  -- a node of a list's root is over the roots of its sides
  sides_tell : (a b : Traced D X) → Good a.digest → Good b.digest → (xs : List A) → 2 ≤ length xs → AllByRecursion Fit xs → ((tracing t leaf).node a b).digest ≡ top t leaf xs →
      Within ((tracing t leaf).node a b).hashed ts → Within (seen t leaf xs) ts → ((a.digest ≡ top t leaf (left_side xs)) × (b.digest ≡ top t leaf (right_side xs))) ⊎ Collision t ts
  sides_tell a b ga gb xs two fx e w v =
      let k = split (length xs) in
      tells_node t Good law ts a.digest b.digest (top t leaf (left_side xs)) (top t leaf (right_side xs)) ga gb
      (top_good t leaf Good Fit law leaves ts (left_side xs) (All-take Fit k xs fx)) (top_good t leaf Good Fit law leaves ts (right_side xs) (All-drop Fit k xs fx))
      (e ∙ top_more t leaf xs two) (within_first w) (seen_more t leaf ts xs two v).0

  climbs_good : {x : A} → Fit x → {n m : ℕ} {ps : List (Traced D X)} {r : Traced D X} → Climbs (tracing t leaf).node (leaf x) n m ps r → Good r.digest
  climbs_good {x} f at_leaf = leaves.good_leaf x f
  climbs_good f (in_left two l up) = law.good _
  climbs_good f (in_right two l up) = law.good _

  -- x stands at place m of xs, and the path is the one of that place
  leaf_tells : (x : A) (xs : List A) → Shape xs → length xs ≡ 1 → (leaf x).digest ≡ top t leaf xs → Within (leaf x).hashed ts → Within (seen t leaf xs) ts →
      (Stands xs 0 x × ([] ≡ digests_of t leaf (path (tracing t leaf) 0 xs))) ⊎ Collision t ts
  leaf_tells x xs none l e w v = absurd (omega arith)
  leaf_tells x xs (one y) l e w v =
      with (leaves.tells x y (e ∙ top_one t leaf y) ts w (seen_one t leaf ts y v))
      (λ is. inl ((omega arith, λ d. sym is), ap (digests_of t leaf) (sym (path-of_one (tracing t leaf) 0 (y ∷ []) (omega arith)))))
  leaf_tells x xs (more zs two) l e w v = absurd (omega arith)

  pub path-tells : (x : A) → Fit x → {n m : ℕ} {ps : List (Traced D X)} {r : Traced D X} → Climbs (tracing t leaf).node (leaf x) n m ps r →
      (xs : List A) → length xs ≡ n → AllByRecursion Fit xs → AllByRecursion (λ (p : Traced D X). Good p.digest) ps →
      r.digest ≡ top t leaf xs → Within r.hashed ts → Within (seen t leaf xs) ts →
      (Stands xs m x × (digests_of t leaf ps ≡ digests_of t leaf (path (tracing t leaf) m xs))) ⊎ Collision t ts
  path-tells x f at_leaf xs l fx gs e w v = leaf_tells x xs (shape xs) l e w v
  path-tells x f (in_left {n = n} {m = m} {p = p} {r = r} two below up) xs l fx gs e w v =
      let here : 2 ≤ length xs = omega arith in
      let k = split (length xs) in
      let there : k ≡ split n = ap split l in
      with (sides_tell r p (climbs_good f up) gs.0 xs here fx e w v)
      (λ (a, b).
      with (path-tells x f up (left_side xs) (length-left xs here ∙ there) (All-take Fit k xs fx) gs.1 a (within_left r.hashed p.hashed w) (seen_more t leaf ts xs here v).1)
      (λ (s, same).
      inl (stands_if_in_front k xs m x (omega arith) s, ap₂ ◌∷◌ b same ∙ ap (digests_of t leaf) (sym (path_in_left (tracing t leaf) m xs here (omega arith))))))
  path-tells x f (in_right {n = n} {m = m} {ps = ps} {p = p} {r = r} two above up) xs l fx gs e w v =
      let here : 2 ≤ length xs = omega arith in
      let k = split (length xs) in
      let there : split n ≡ k = ap split (sym l) in
      with (sides_tell p r gs.0 (climbs_good f up) xs here fx e w v)
      (λ (a, b).
      with
      (path-tells x f up (right_side xs) (length-right xs ∙ ap (λ j. j - split j) l) (All-drop Fit k xs fx) gs.1 b (within_right p.hashed r.hashed w)
      (seen_more t leaf ts xs here v).2)
      (λ found.
      let (s, same) = subst (λ j. Stands (right_side xs) (m - j) x × (digests_of t leaf ps ≡ digests_of t leaf (path (tracing t leaf) (m - j) (right_side xs)))) there found in
      inl (stands_if_behind k xs m x (omega arith) s, ap₂ ◌∷◌ a same ∙ ap (digests_of t leaf) (sym (path_in_right (tracing t leaf) m xs here (omega arith))))))

  joins_good : {old : Traced D X} → Good old.digest → {m n : ℕ} {whole : Bool} {ps : List (Traced D X)} {e l : Traced D X} →
      Joins (tracing t leaf).node old m n whole ps e l → AllByRecursion (λ (p : Traced D X). Good p.digest) ps → Good e.digest × Good l.digest
  joins_good g at_whole gs = (g, g)
  joins_good g at_part gs = (gs.0, gs.0)
  joins_good g (ends_left s h down) gs = ((joins_good g down gs.1).0, law.good _)
  joins_good g (ends_right s h down) gs = (law.good _, law.good _)

  -- two lists of one length, both with the root d
  same_root_tells : (d : Traced D X) (xs ys : List A) → length xs ≡ length ys → AllByRecursion Fit xs → AllByRecursion Fit ys → d.digest ≡ top t leaf xs → d.digest ≡ top t leaf ys →
      Within (seen t leaf xs) ts → Within (seen t leaf ys) ts → (xs ≡ ys) ⊎ Collision t ts
  same_root_tells d xs ys l fx fy e f w v = root-tells t leaf Good Fit law leaves ts xs ys fx fy (inl l) (sym e ∙ f) w v

  -- ys begins with xs, and the proof is the one from there
  pub consistency-tells : {old : Traced D X} → Good old.digest → {m n : ℕ} {whole : Bool} {ps : List (Traced D X)} {e l : Traced D X} →
      Joins (tracing t leaf).node old m n whole ps e l →
      (xs ys : List A) → length xs ≡ m → length ys ≡ n → 0 < m → AllByRecursion Fit xs → AllByRecursion Fit ys → AllByRecursion (λ (p : Traced D X). Good p.digest) ps →
      e.digest ≡ top t leaf xs → l.digest ≡ top t leaf ys →
      Within e.hashed ts → Within l.hashed ts → Within (seen t leaf xs) ts → Within (seen t leaf ys) ts →
      ((xs ≡ take m ys) × (digests_of t leaf ps ≡ digests_of t leaf (consistency_from (tracing t leaf) m whole ys))) ⊎ Collision t ts
  consistency-tells {old} g (at_whole {n = n}) xs ys lx ly pos fx fy gs is-e is-l we wl wx wy =
      with (same_root_tells old xs ys (lx ∙ sym ly) fx fy is-e is-l wx wy)
      (λ is.
      inl (
        is ∙ sym (take_all n ys (omega arith)),
        ap (digests_of t leaf) (sym (subst (λ j. consistency_from (tracing t leaf) j true ys ≡ []) ly (consistency-of_whole (tracing t leaf) ys))),
      ))
  consistency-tells g (at_part {n = n} {p = p}) xs ys lx ly pos fx fy gs is-e is-l we wl wx wy =
      with (same_root_tells p xs ys (lx ∙ sym ly) fx fy is-e is-l wx wy)
      (λ is.
      inl (
        is ∙ sym (take_all n ys (omega arith)),
        ap (λ d. d ∷ []) is-l ∙
            ap (digests_of t leaf) (sym (subst (λ j. consistency_from (tracing t leaf) j false ys ≡ root (tracing t leaf) ys ∷ []) ly (consistency-of_part (tracing t leaf) ys))),
      ))
  consistency-tells g (ends_left {m = m} {n = n} {whole = whole} {p = p} {l = l} s h down) xs ys lx ly pos fx fy gs is-e is-l we wl wx wy =
      let here : 2 ≤ length ys = omega arith in
      let k = split (length ys) in
      let there : k ≡ split n = ap split ly in
      let (node-y, left-y, right-y) = seen_more t leaf ts ys here wy in
      with (sides_tell l p (joins_good g down gs.1).1 gs.0 ys here fy is-l wl wy)
      (λ (a, b).
      with
      (consistency-tells g down xs (left_side ys) lx (length-left ys here ∙ there) pos fx (All-take Fit k ys fy) gs.1 is-e a
      we (within_left l.hashed p.hashed wl) wx left-y)
      (λ (is, same).
      inl (
        is ∙ take-take m k ys (omega arith),
        ap₂ ◌∷◌ b same ∙ ap (digests_of t leaf) (sym (consistency_in_left (tracing t leaf) m whole ys pos (omega arith) (omega arith))),
      )))
  consistency-tells g (ends_right {m = m} {n = n} {whole = whole} {ps = ps} {p = p} {e = e} {l = l} s h down) xs ys lx ly pos fx fy gs is-e is-l we wl wx wy =
      let here : 2 ≤ length ys = omega arith in
      let k = split (length ys) in
      let there : split n ≡ k = ap split (sym ly) in
      let half = split_half (length ys) here in
      let also : split (length xs) ≡ k = split_unique (length xs) k (split_power (length ys) here, omega arith, omega arith) in
      let two : 2 ≤ length xs = omega (arith, split_pos (length ys) here) in
      let (node-x, left-x, right-x) = seen_more t leaf ts xs two wx in
      let (node-y, left-y, right-y) = seen_more t leaf ts ys here wy in
      let goods = joins_good g down gs.1 in
      with (sides_tell p e gs.0 goods.0 xs two fx is-e we wx)
      (λ (a, b).
      with (sides_tell p l gs.0 goods.1 ys here fy is-l wl wy)
      (λ (c, d).
      with
      (same_root_tells p (left_side xs) (left_side ys) (length-left xs two ∙ (also ∙ sym (length-left ys here)))
      (All-take Fit (split (length xs)) xs fx) (All-take Fit k ys fy) a c left-x left-y)
      (λ left.
      with
      (consistency-tells g down (right_side xs) (right_side ys) (omega (arith, length-right xs)) (omega (arith, length-right ys)) (omega arith)
      (All-drop Fit (split (length xs)) xs fx) (All-drop Fit k ys fy) gs.1 b d
      (within_right p.hashed e.hashed we) (within_right p.hashed l.hashed wl) right-x right-y)
      (λ found.
      let (right, same) = subst (λ j. (right_side xs ≡ take (m - j) (right_side ys)) × (digests_of t leaf ps ≡ digests_of t leaf (consistency_from (tracing t leaf) (m - j) false (right_side ys)))) there found in
      inl (
        sym (take-append-drop (split (length xs)) xs) ∙ (ap₂ ◌++◌ left right ∙ sym (take_over k m ys (omega arith))),
        ap₂ ◌∷◌ c same ∙ ap (digests_of t leaf) (sym (consistency_in_right (tracing t leaf) m whole ys (omega arith) (omega arith))),
      )))))
