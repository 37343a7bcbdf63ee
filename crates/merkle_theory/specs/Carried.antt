-- A map of entries and digests that agrees with how digests are made carries the whole tree over, and its proofs with it. Assumes nothing.
use Rattle.std.specs.Prelude.{◌≡◌, ℕ, Bool, List, map}
use Rattle.std.specs.Option.{option_map}
use Rattle.merkle_theory.specs.Tree.{Hashing, Roots, root, path, consistency, root_from_path, roots_from_consistency}

abbrev pub on_roots : {D E : Type 0} → (D → E) → Roots D → Roots E
on_roots f r = record { earlier = f r.earlier; later = f r.later }

module _ {A B D E : Type 0} (H : Hashing A D) (K : Hashing B E) (f : D → E) (g : A → B) where
  -- f of H's digests are K's digests, of the entries that g gives
  pub record Homomorphism : Type 0 where
    pub of_none : f H.none ≡ K.none
    pub of_leaf : (x : A) → f (H.leaf x) ≡ K.leaf (g x)
    pub of_node : (a b : D) → f (H.node a b) ≡ K.node (f a) (f b)

  -- and so are f of H's roots and proofs, and of what proofs lead to
  pub record Carries : Type 0 where
    pub roots : (xs : List A) → root K (map g xs) ≡ f (root H xs)
    pub paths : (m : ℕ) (xs : List A) → path K m (map g xs) ≡ map f (path H m xs)
    pub consistencies : (m : ℕ) (ys : List A) → consistency K m (map g ys) ≡ map f (consistency H m ys)
    pub paths_lead : (n m : ℕ) (d : D) (ps : List D) → root_from_path K.node n m (f d) (map f ps) ≡ option_map f (root_from_path H.node n m d ps)
    pub consistencies_lead : (m n : ℕ) (whole : Bool) (old : D) (ps : List D) →
        roots_from_consistency K.node m n whole (f old) (map f ps) ≡ option_map (on_roots f) (roots_from_consistency H.node m n whole old ps)
