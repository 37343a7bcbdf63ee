-- The tree over digests of 32 bytes: texts of bytes say what they are of.
use Rattle.std.proofs.Common.{◌≡◌, ℕ, ◌⊎◌, [], ◌∷◌, ◌++◌, take, drop, sym, refl, ap, ◌∙◌, inl, inr}
use mathlib.Core.List.{List-discrete}
use native.Mathlib.Decide.{ℕ_discrete}
use Rattle.std.proofs.lemmas.List.{take_at, drop_at, map-id}
use Rattle.merkle_theory.specs.Carried.{Homomorphism}
use Rattle.merkle_theory.specs.Bytes.{Bytes, texts, over_entries, over_leaves}
use Rattle.merkle_theory.specs.Digests.{Long, Agree}
use Rattle.merkle_theory.proofs.Carried.{root_carried, path_carried, consistency_carried}
use Rattle.merkle_theory.proofs.RootTells.{Lawful, never}

compared_bytes : (s u : Bytes) → (s ≡ u) ⊎ (s ≡ u → ⊥)
compared_bytes s u = elim (List-discrete ℕ_discrete s u) [ yes e ↦ inl e | no e ↦ inr e ]

joined_apart : (a b c d : Bytes) → Long a → Long c → a ++ b ≡ c ++ d → (a ≡ c) × (b ≡ d)
joined_apart a b c d la lc e =
    (sym (take_at a b 32 la) ∙ (ap (take 32) e ∙ take_at c d 32 lc), sym (drop_at a b 32 la) ∙ (ap (drop 32) e ∙ drop_at c d 32 lc))

tail_of : (n : ℕ) (s u : Bytes) → n ∷ s ≡ n ∷ u → s ≡ u
tail_of n s u e = cc

module _ (hash : Bytes → Bytes) (long : (s : Bytes) → Long (hash s)) where
  pub bytes_lawful : Lawful (texts hash) Long
  bytes_lawful = record {
    compared = λ s u _. compared_bytes s u;
    good = long;
    leaf_tells = λ x y e. tail_of 0 x y e;
    node_tells = λ a b c d la lb lc ld e. joined_apart a b c d la lc (tail_of 1 (a ++ b) (c ++ d) e);
    none_not_leaf = λ x. never (λ (e : ◌≡◌ {A = Bytes} [] (0 ∷ x)). cc);
    none_not_node = λ a b. never (λ (e : ◌≡◌ {A = Bytes} [] (1 ∷ (a ++ b))). cc);
    leaf_not_node = λ x a b. never (λ (e : ◌≡◌ {A = Bytes} (0 ∷ x) (1 ∷ (a ++ b))). cc);
  }

module _ (hash : Bytes → Bytes) where
  -- digests stay as they are, and an entry goes to its leaf digest
  pub leaf_is_homomorphism : Homomorphism (over_entries hash) (over_leaves hash) (λ (d : Bytes). d) (over_entries hash).leaf
  leaf_is_homomorphism = record { of_none = refl; of_leaf = λ x. refl; of_node = λ a b. refl }

  pub entries_agree_with_leaves : Agree hash
  entries_agree_with_leaves = record {
    leaves = refl;
    roots = root_carried (over_entries hash) (over_leaves hash) (λ (d : Bytes). d) (over_entries hash).leaf leaf_is_homomorphism;
    paths = λ m xs. path_carried (over_entries hash) (over_leaves hash) (λ (d : Bytes). d) (over_entries hash).leaf leaf_is_homomorphism xs m ∙ map-id _;
    consistencies = λ m ys. consistency_carried (over_entries hash) (over_leaves hash) (λ (d : Bytes). d) (over_entries hash).leaf leaf_is_homomorphism m ys ∙ map-id _;
  }
