-- What a root tells, or else two texts that collide: one proof for the tree over entries and over leaf digests.
use Rattle.std.proofs.Common.{◌≡◌, ℕ, ◌-◌, ◌≤◌, ◌⊎◌, List, [], ◌∷◌, ◌++◌, length, sym, refl, ap, ◌∙◌, subst, ap₂, inl, inr, arith, take-append-drop}
use mathlib.Core.List.Memᴰ
use mathlib.Core.List.{Memᴰ}
use Rattle.std.specs.List.{AllByRecursion}
use Rattle.std.proofs.ByRecursion.{All-take, All-drop}
use Rattle.merkle_theory.specs.Tree.{split, root}
use Rattle.merkle_theory.specs.Laws.{left_side, right_side}
use Rattle.merkle_theory.specs.Texts.{Texts, Collision, Traced, outside, entry_leaf, tracing}
use Rattle.merkle_theory.proofs.Laws.{halves, length-left, length-right, root-of_none, root-of_one, root-of_more}
use Rattle.merkle_theory.proofs.Sides.{Shape, shape}
use Rattle.merkle_theory.proofs.Sides.Shape.{none, one, more}

-- what is asked of texts: two of one digest can be compared, digests are good, and a text of good digests says what it is of
pub record Lawful {A D X : Type 0} (t : Texts A D X) (Good : D → Type 0) : Type 0 where
  pub compared : (s u : X) → t.hash s ≡ t.hash u → (s ≡ u) ⊎ (s ≡ u → ⊥)
  pub good : (s : X) → Good (t.hash s)
  pub leaf_tells : (x y : A) → t.of_leaf x ≡ t.of_leaf y → x ≡ y
  pub node_tells : (a b c d : D) → Good a → Good b → Good c → Good d → t.of_node a b ≡ t.of_node c d → (a ≡ c) × (b ≡ d)
  pub none_not_leaf : (x : A) → t.empty ≡ t.of_leaf x → ⊥
  pub none_not_node : (a b : D) → t.empty ≡ t.of_node a b → ⊥
  pub leaf_not_node : (x : A) (a b : D) → t.of_leaf x ≡ t.of_node a b → ⊥

-- what would make 0 be 1 is not so
pub never : {P : Type 0} → (P → ◌≡◌ {A = ℕ} 0 1) → P → ⊥
never f p = let z = f p in omega arith

-- each of us is among ts
abbrev pub Within : {X : Type 0} → List X → List X → Type 0
Within {X} us ts = (u : X) → Memᴰ u us → Memᴰ u ts

-- a collision in a list is one in each list that has all its texts
pub collision_within : {A D X : Type 0} {t : Texts A D X} {us ts : List X} → Within us ts → Collision t us → Collision t ts
collision_within w c = record { one = c.one; other = c.other; one_in = w c.one c.one_in; other_in = w c.other c.other_in; differ = c.differ; same = c.same }

-- what holds of everything
abbrev pub Any : {X : Type 0} → X → Type 0
Any x = Unit {0}

pub any : {X : Type 0} (xs : List X) → AllByRecursion Any xs
any [] = tt
any (x ∷ xs) = (tt, any xs)

-- a value, or else a collision: go on with the value
pub with : {P Q C : Type 0} → P ⊎ C → (P → Q ⊎ C) → Q ⊎ C
with (inl p) f = f p
with (inr c) f = inr c

module _ {A B D X : Type 0} (t : Texts B D X) (leaf : A → Traced D X) where
  -- what is asked of leaves: those of fit entries have good digests, and tell the entry or else collide
  pub record Leaves (Good : D → Type 0) (Fit : A → Type 0) : Type 0 where
    pub good_leaf : (x : A) → Fit x → Good (leaf x).digest
    pub tells : (x y : A) → (leaf x).digest ≡ (leaf y).digest → (ts : List X) → Within (leaf x).hashed ts → Within (leaf y).hashed ts → (x ≡ y) ⊎ Collision t ts

  -- leaves are told from no entries and from nodes, or else collide
  pub record Apart : Type 0 where
    pub from_none : (x : A) → t.hash t.empty ≡ (leaf x).digest → (ts : List X) → Memᴰ t.empty ts → Within (leaf x).hashed ts → Collision t ts
    pub from_node : (x : A) (a b : D) → (leaf x).digest ≡ t.hash (t.of_node a b) → (ts : List X) → Within (leaf x).hashed ts → Memᴰ (t.of_node a b) ts →
        Collision t ts

module _ {X : Type 0} {ts : List X} where
  pub within_first : {u : X} {us : List X} → Within (u ∷ us) ts → Memᴰ u ts
  within_first {u = u} w = w u (Memᴰ.head refl)

  pub within_left : {u : X} (us vs : List X) → Within (u ∷ (us ++ vs)) ts → Within us ts
  within_left us vs w x h = w x (Memᴰ.tail (Memᴰ.append_left vs h))

  pub within_right : {u : X} (us vs : List X) → Within (u ∷ (us ++ vs)) ts → Within vs ts
  within_right us vs w x h = w x (Memᴰ.tail (Memᴰ.append_right us h))

module _ {B D X : Type 0} (t : Texts B D X) (Good : D → Type 0) (law : Lawful t Good) (ts : List X) where
  pub tells_text : (s u : X) → t.hash s ≡ t.hash u → Memᴰ s ts → Memᴰ u ts → (s ≡ u) ⊎ Collision t ts
  tells_text s u e h k = elim (law.compared s u e) [
    | inl is ↦ inl is
    | inr ne ↦ inr (record { one = s; other = u; one_in = h; other_in = k; differ = ne; same = e })
  ]

  pub tells_node : (a b c d : D) → Good a → Good b → Good c → Good d → t.hash (t.of_node a b) ≡ t.hash (t.of_node c d) →
      Memᴰ (t.of_node a b) ts → Memᴰ (t.of_node c d) ts → ((a ≡ c) × (b ≡ d)) ⊎ Collision t ts
  tells_node a b c d ga gb gc gd e h k = with (tells_text (t.of_node a b) (t.of_node c d) e h k) (λ is. inl (law.node_tells a b c d ga gb gc gd is))

-- leaves that are hashed from texts of entries, and leaf digests that stand for themselves
module _ {A D X : Type 0} (t : Texts A D X) (Good : D → Type 0) (law : Lawful t Good) where
  pub entries_tell : Leaves t (entry_leaf t) Good Any
  entries_tell = record {
    good_leaf = λ x _. law.good (t.of_leaf x);
    tells = λ x y e ts h k. with (tells_text t Good law ts (t.of_leaf x) (t.of_leaf y) e (within_first h) (within_first k)) (λ is. inl (law.leaf_tells x y is));
  }

  pub entries_apart : Apart t (entry_leaf t)
  entries_apart = record {
    from_none = λ x e ts h k. record { one = t.empty; other = t.of_leaf x; one_in = h; other_in = within_first k; differ = law.none_not_leaf x; same = e };
    from_node = λ x a b e ts h k. record { one = t.of_leaf x; other = t.of_node a b; one_in = within_first h; other_in = k; differ = law.leaf_not_node x a b; same = e };
  }

  pub digests_tell : Leaves t outside Good Good
  digests_tell = record { good_leaf = λ d g. g; tells = λ c d e ts h k. inl e }

module _ {A B D X : Type 0} (t : Texts B D X) (leaf : A → Traced D X) where
  -- the digest of a list's root, and the texts that are hashed for it
  abbrev pub top : List A → D
  top xs = (root (tracing t leaf) xs).digest

  abbrev pub seen : List A → List X
  seen xs = (root (tracing t leaf) xs).hashed

  top_none : top [] ≡ t.hash t.empty
  top_none = ap (λ (d : Traced D X). d.digest) (root-of_none (tracing t leaf))

  pub top_one : (x : A) → top (x ∷ []) ≡ (leaf x).digest
  top_one x = ap (λ (d : Traced D X). d.digest) (root-of_one (tracing t leaf) x)

  pub top_more : (xs : List A) → 2 ≤ length xs → top xs ≡ t.hash (t.of_node (top (left_side xs)) (top (right_side xs)))
  top_more xs two = ap (λ (d : Traced D X). d.digest) (root-of_more (tracing t leaf) xs two)

  module _ (ts : List X) where
    seen_none : Within (seen []) ts → Memᴰ t.empty ts
    seen_none w = within_first (subst (λ (d : Traced D X). Within d.hashed ts) (root-of_none (tracing t leaf)) w)

    pub seen_one : (x : A) → Within (seen (x ∷ [])) ts → Within (leaf x).hashed ts
    seen_one x = subst (λ (d : Traced D X). Within d.hashed ts) (root-of_one (tracing t leaf) x)

    pub seen_more : (xs : List A) → 2 ≤ length xs → Within (seen xs) ts →
        Memᴰ (t.of_node (top (left_side xs)) (top (right_side xs))) ts × Within (seen (left_side xs)) ts × Within (seen (right_side xs)) ts
    seen_more xs two w =
        let v = subst (λ (d : Traced D X). Within d.hashed ts) (root-of_more (tracing t leaf) xs two) w in
        (within_first v, within_left (seen (left_side xs)) (seen (right_side xs)) v, within_right (seen (left_side xs)) (seen (right_side xs)) v)

-- two lists of one root, equally long or with leaves that are apart, are one list, or else two texts collide
abbrev Tells : {A B D X : Type 0} (t : Texts B D X) (leaf : A → Traced D X) (Fit : A → Type 0) (ts : List X) → List A → List A → Type 0
Tells t leaf Fit ts xs ys =
    AllByRecursion Fit xs → AllByRecursion Fit ys → (length xs ≡ length ys) ⊎ Apart t leaf → top t leaf xs ≡ top t leaf ys → Within (seen t leaf xs) ts → Within (seen t leaf ys) ts →
    (xs ≡ ys) ⊎ Collision t ts

module _ {A B D X : Type 0} (t : Texts B D X) (leaf : A → Traced D X) (Good : D → Type 0) (Fit : A → Type 0) (law : Lawful t Good) (leaves : Leaves t leaf Good Fit) (ts : List X) where
  pub top_good : (xs : List A) → AllByRecursion Fit xs → Good (top t leaf xs)
  top_good xs f = elim (shape xs) as (λ zs s. AllByRecursion Fit zs → Good (top t leaf zs)) [
    | none ↦ λ f. subst Good (sym (top_none t leaf)) (law.good t.empty)
    | one x ↦ λ f. subst Good (sym (top_one t leaf x)) (leaves.good_leaf x f.0)
    | more zs two ↦ λ f. subst Good (sym (top_more t leaf zs two)) (law.good _)
  ] f

  tells_swapped : (xs ys : List A) → Tells t leaf Fit ts ys xs → Tells t leaf Fit ts xs ys
  tells_swapped xs ys tells fx fy (inl l) e wx wy = with (tells fy fx (inl (sym l)) (sym e) wy wx) (λ is. inl (sym is))
  tells_swapped xs ys tells fx fy (inr a) e wx wy = with (tells fy fx (inr a) (sym e) wy wx) (λ is. inl (sym is))

  none_tells : (ys : List A) → Shape ys → Tells t leaf Fit ts [] ys
  none_tells ys none fx fy apart e wx wy = inl refl
  none_tells ys (one y) fx fy (inl l) e wx wy = absurd (omega arith)
  none_tells ys (one y) fx fy (inr a) e wx wy = inr (a.from_none y (sym (top_none t leaf) ∙ (e ∙ top_one t leaf y)) ts (seen_none t leaf ts wx) (seen_one t leaf ts y wy))
  none_tells ys (more zs two) fx fy (inl l) e wx wy = absurd (omega arith)
  none_tells ys (more zs two) fx fy (inr a) e wx wy =
      with (tells_text t Good law ts t.empty _ (sym (top_none t leaf) ∙ (e ∙ top_more t leaf zs two)) (seen_none t leaf ts wx) (seen_more t leaf ts zs two wy).0)
      (λ is. absurd (law.none_not_node _ _ is))

  one_tells : (x : A) (ys : List A) → Shape ys → Tells t leaf Fit ts (x ∷ []) ys
  one_tells x ys none fx fy apart e wx wy = tells_swapped (x ∷ []) [] (none_tells (x ∷ []) (one x)) fx fy apart e wx wy
  one_tells x ys (one y) fx fy apart e wx wy =
      with (leaves.tells x y (sym (top_one t leaf x) ∙ (e ∙ top_one t leaf y)) ts (seen_one t leaf ts x wx) (seen_one t leaf ts y wy)) (λ is. inl (ap (λ z. z ∷ []) is))
  one_tells x ys (more zs two) fx fy (inl l) e wx wy = absurd (omega arith)
  one_tells x ys (more zs two) fx fy (inr a) e wx wy =
      inr (a.from_node x _ _ (sym (top_one t leaf x) ∙ (e ∙ top_more t leaf zs two)) ts (seen_one t leaf ts x wx) (seen_more t leaf ts zs two wy).0)

  sides_match : (xs ys : List A) → 2 ≤ length xs → 2 ≤ length ys → (length xs ≡ length ys) ⊎ Apart t leaf →
      ((length (left_side xs) ≡ length (left_side ys)) ⊎ Apart t leaf) × ((length (right_side xs) ≡ length (right_side ys)) ⊎ Apart t leaf)
  sides_match xs ys two also (inl l) =
      (inl (length-left xs two ∙ (ap split l ∙ sym (length-left ys also))), inl (length-right xs ∙ (ap (λ n. n - split n) l ∙ sym (length-right ys))))
  sides_match xs ys two also (inr a) = (inr a, inr a)

  more_tells : (xs : List A) → 2 ≤ length xs → ((ys : List A) → Tells t leaf Fit ts (left_side xs) ys) → ((ys : List A) → Tells t leaf Fit ts (right_side xs) ys) →
      (ys : List A) → Shape ys → Tells t leaf Fit ts xs ys
  more_tells xs two left right ys none fx fy apart e wx wy = tells_swapped xs [] (none_tells xs (more xs two)) fx fy apart e wx wy
  more_tells xs two left right ys (one y) fx fy apart e wx wy = tells_swapped xs (y ∷ []) (one_tells y xs (more xs two)) fx fy apart e wx wy
  more_tells xs two left right ys (more zs also) fx fy apart e wx wy =
      let k = split (length xs) in
      let j = split (length zs) in
      let (node-x, left-x, right-x) = seen_more t leaf ts xs two wx in
      let (node-y, left-y, right-y) = seen_more t leaf ts zs also wy in
      let (match-left, match-right) = sides_match xs zs two also apart in
      let fits-left = All-take Fit k xs fx in
      let fits-right = All-drop Fit k xs fx in
      let fits-left' = All-take Fit j zs fy in
      let fits-right' = All-drop Fit j zs fy in
      with
      (tells_node t Good law ts _ _ _ _
      (top_good (left_side xs) fits-left) (top_good (right_side xs) fits-right) (top_good (left_side zs) fits-left') (top_good (right_side zs) fits-right')
      (sym (top_more t leaf xs two) ∙ (e ∙ top_more t leaf zs also)) node-x node-y)
      (λ (a, b).
      with (left (left_side zs) fits-left fits-left' match-left a left-x left-y)
      (λ l.
      with (right (right_side zs) fits-right fits-right' match-right b right-x right-y)
      (λ r. inl (sym (take-append-drop k xs) ∙ (ap₂ ◌++◌ l r ∙ take-append-drop j zs)))))

  pub root-tells : (xs ys : List A) → Tells t leaf Fit ts xs ys
  root-tells =
      halves (λ xs. (ys : List A) → Tells t leaf Fit ts xs ys)
      (λ ys. none_tells ys (shape ys))
      (λ x ys. one_tells x ys (shape ys))
      (λ xs two left right ys. more_tells xs two left right ys (shape ys))
