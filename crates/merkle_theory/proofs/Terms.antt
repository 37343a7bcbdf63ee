-- Over terms nothing collides, so that roots and proofs say the list.
use Rattle.std.proofs.Common.{◌≡◌, ◌≤◌, ◌⊎◌, List, length, sym, refl, ap, subst, inl, inr, arith, length-take}
use Rattle.merkle_theory.specs.Tree.{Hashing, root, consistency, PathLeads, ConsistencyLeads}
use Rattle.merkle_theory.specs.Carried.{Homomorphism}
use Rattle.merkle_theory.specs.Texts.{Collision}
use Rattle.merkle_theory.specs.Bytes.{Bytes}
use Rattle.merkle_theory.specs.Terms.{Term, terms, over_terms, RootSays, PathExact, ConsistencyExact, eval}
use Rattle.merkle_theory.specs.Terms.Term.{Empty, Leaf, Node}
use Rattle.merkle_theory.proofs.There.{path-there, consistency-there}
use Rattle.merkle_theory.proofs.RootTells.{Lawful, Any, any, never}
use Rattle.merkle_theory.proofs.Told.{root-told_of_entries, path-told_of_entries, consistency-told_of_entries}

pub only_told : {A : Type 0} {P : Type 0} {ts : List (Term A)} → P ⊎ Collision (terms A) ts → P
only_told (inl p) = p
only_told (inr c) = absurd (c.differ c.same)

module _ (A : Type 0) where
  terms_lawful : Lawful (terms A) Any
  terms_lawful = record {
    compared = λ s u e. inl e;
    good = λ s. tt;
    leaf_tells = λ x y e. cc;
    node_tells = λ a b c d _ _ _ _ e. (cc, cc);
    none_not_leaf = λ x. never (λ (e : ◌≡◌ {A = Term A} Empty (Leaf x)). cc);
    none_not_node = λ a b. never (λ (e : ◌≡◌ {A = Term A} Empty (Node a b)). cc);
    leaf_not_node = λ x a b. never (λ (e : ◌≡◌ {A = Term A} (Leaf x) (Node a b)). cc);
  }

  pub root-says : RootSays A
  root-says xs ys e = only_told (root-told_of_entries (terms A) Any terms_lawful xs ys e)

  pub path_exact : PathExact A
  path_exact xs m x ps = (
    λ leads. only_told (path-told_of_entries (terms A) Any terms_lawful xs m x ps (any ps) leads),
    λ (s, is). subst (λ qs. PathLeads Node (length xs) m (Leaf x) qs (root (over_terms A) xs)) (sym is) (path-there (over_terms A) xs m x s),
  )

  pub consistency_exact : ConsistencyExact A
  consistency_exact xs ys ps pos = (
    λ leads. only_told (consistency-told_of_entries (terms A) Any terms_lawful xs ys ps pos (any ps) leads),
    λ (begins, is).
        let within : length xs ≤ length ys = omega (arith, ap length begins, length-take (length xs) ys) in
        subst (λ qs. ConsistencyLeads Node (length xs) (length ys) (root (over_terms A) xs) (root (over_terms A) ys) qs) (sym is)
        (subst (λ zs. ConsistencyLeads Node (length xs) (length ys) (root (over_terms A) zs) (root (over_terms A) ys) (consistency (over_terms A) (length xs) ys)) (sym begins)
        (consistency-there (over_terms A) (length xs) ys pos within)),
  )

  pub eval_is_homomorphism : (H : Hashing A Bytes) → Homomorphism (over_terms A) H (eval H) (λ (x : A). x)
  unfolding eval
  eval_is_homomorphism H = record { of_none = refl; of_leaf = λ x. refl; of_node = λ a b. refl }
