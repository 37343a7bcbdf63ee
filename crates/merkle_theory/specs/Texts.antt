-- Digests made by hashing texts: the texts that are hashed for a value, and two of them that differ and have one digest.
-- Assumes nothing.
use Rattle.std.specs.Prelude.{◌≡◌, ℕ, ◌-◌, ◌<◌, ◌≤◌, true, List, [], ◌∷◌, ◌++◌, map, length, Some, None, Option}
use mathlib.Core.List.{Memᴰ}
use Rattle.merkle_theory.specs.Tree.{Hashing, Roots, split, root, root_from_path, roots_from_consistency, PathLeads}
use Rattle.merkle_theory.specs.Laws.{left_side, right_side}

-- how texts X are made, of no entries, of one entry A, of two digests D; and how they are hashed
pub record Texts (A D X : Type 0) : Type 0 where
  pub empty : X
  pub of_leaf : A → X
  pub of_node : D → D → X
  pub hash : X → D

abbrev pub hashing : {A D X : Type 0} → Texts A D X → Hashing A D
hashing t = record { none = t.hash t.empty; leaf = λ x. t.hash (t.of_leaf x); node = λ a b. t.hash (t.of_node a b) }

-- two different members of ts that have one digest
pub record Collision {A D X : Type 0} (t : Texts A D X) (ts : List X) : Type 0 where
  pub one : X
  pub other : X
  pub one_in : Memᴰ one ts
  pub other_in : Memᴰ other ts
  pub differ : one ≡ other → ⊥
  pub same : t.hash one ≡ t.hash other

-- the tree over leaf digests alone: each stands for itself
abbrev pub hashing_leaves : {A D X : Type 0} → Texts A D X → Hashing D D
hashing_leaves t = record { none = t.hash t.empty; leaf = λ d. d; node = λ a b. t.hash (t.of_node a b) }

-- a digest with the texts that were hashed for it
pub record Traced (D X : Type 0) : Type 0 where
  pub digest : D
  pub hashed : List X

-- a digest from outside: nothing was hashed for it
abbrev pub outside : {D X : Type 0} → D → Traced D X
outside d = record { digest = d; hashed = [] }

abbrev pub hashed_for : {D X : Type 0} → Option (Traced D X) → List X
hashed_for None = []
hashed_for (Some d) = d.hashed

abbrev pub hashed_for_both : {D X : Type 0} → Option (Roots (Traced D X)) → List X
hashed_for_both None = []
hashed_for_both (Some r) = r.earlier.hashed ++ r.later.hashed

module _ {A D X : Type 0} (t : Texts A D X) where
  abbrev pub hashed_after : List X → X → Traced D X
  hashed_after before x = record { digest = t.hash x; hashed = x ∷ before }

  -- the tree over digests that keep the texts that were hashed for them
  abbrev pub tracing : {B : Type 0} → (B → Traced D X) → Hashing B (Traced D X)
  tracing leaf = record { none = hashed_after [] t.empty; leaf = leaf; node = λ a b. hashed_after (a.hashed ++ b.hashed) (t.of_node a.digest b.digest) }

  -- over entries, and over leaf digests alone
  abbrev pub entry_leaf : A → Traced D X
  entry_leaf x = hashed_after [] (t.of_leaf x)

  abbrev pub tracing_entries : Hashing A (Traced D X)
  tracing_entries = tracing entry_leaf

  abbrev pub tracing_leaves : Hashing D (Traced D X)
  tracing_leaves = tracing outside

  -- the texts that are hashed for the root of a list, and for the root of a row of leaf digests
  unfoldable pub root_texts : List A → List X
  root_texts xs = (root tracing_entries xs).hashed

  unfoldable pub row_texts : List D → List X
  row_texts ds = (root tracing_leaves ds).hashed

  -- the texts that are hashed as a path is followed from the digest s at place m of n: from an entry, and from a leaf digest
  unfoldable pub follow_texts : ℕ → ℕ → Traced D X → List D → List X
  follow_texts n m s ps = hashed_for (root_from_path tracing_entries.node n m s (map outside ps))

  abbrev pub path_texts : ℕ → ℕ → A → List D → List X
  path_texts n m x ps = follow_texts n m (entry_leaf x) ps

  abbrev pub row_path_texts : ℕ → ℕ → D → List D → List X
  row_path_texts n m d ps = follow_texts n m (outside d) ps

  -- the texts that are hashed as a consistency proof of the first m of n, with the root old, is followed
  unfoldable pub consistency_texts : ℕ → ℕ → D → List D → List X
  consistency_texts m n old ps = hashed_for_both (roots_from_consistency tracing_entries.node m n true (outside old) (map outside ps))

  -- a root's texts are its own and those of both sides; a row's leaves have none
  pub record TextLaws : Type 0 where
    pub of_none : root_texts [] ≡ t.empty ∷ []
    pub of_one : (x : A) → root_texts (x ∷ []) ≡ t.of_leaf x ∷ []
    pub of_more : (xs : List A) → 2 ≤ length xs →
        root_texts xs ≡ t.of_node (root (hashing t) (left_side xs)) (root (hashing t) (right_side xs)) ∷ (root_texts (left_side xs) ++ root_texts (right_side xs))
    pub of_no_leaf : row_texts [] ≡ t.empty ∷ []
    pub of_leaf : (d : D) → row_texts (d ∷ []) ≡ []
    pub of_row : (ds : List D) → 2 ≤ length ds →
        row_texts ds ≡ t.of_node (root (hashing_leaves t) (left_side ds)) (root (hashing_leaves t) (right_side ds)) ∷ (row_texts (left_side ds) ++ row_texts (right_side ds))

  -- the texts of a path are those of the digest that it starts from, and one for each node on its way
  pub record FollowTextLaws : Type 0 where
    pub at_leaf : (s : Traced D X) → follow_texts 1 0 s [] ≡ s.hashed
    pub in_left : (n m : ℕ) (s : Traced D X) (p r : D) (ps : List D) → 2 ≤ n → m < split n → PathLeads (hashing t).node (split n) m s.digest ps r →
        follow_texts n m s (p ∷ ps) ≡ t.of_node r p ∷ follow_texts (split n) m s ps
    pub in_right : (n m : ℕ) (s : Traced D X) (p r : D) (ps : List D) → 2 ≤ n → split n ≤ m → PathLeads (hashing t).node (n - split n) (m - split n) s.digest ps r →
        follow_texts n m s (p ∷ ps) ≡ t.of_node p r ∷ follow_texts (n - split n) (m - split n) s ps
