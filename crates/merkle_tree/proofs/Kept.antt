-- What is kept for a whole subtree is its root.
use Rattle.std.proofs.Common.{◌≡◌, ℕ, zero, suc, ◌+◌, ◌-◌, ◌/◌, ◌≤◌, true, List, length, get_or, sym, refl, ap, ◌∙◌, ap₂, arith, ne_eqb}
use Rattle.std.proofs.lemmas.Slice.Eq.{bytes_eq-Decides}
use Rattle.merkle_theory.specs.Tree.{split}
use Rattle.merkle_theory.proofs.Laws.{split_of_power}
use Rattle.merkle.specs.declared.digest.Digest.{Digest}
use Rattle.merkle.specs.Digests.{node_of}
use Rattle.merkle_tree.specs.Layout.{root_of, blank, part, scaled, holds, kept_at}
use Rattle.merkle_tree.proofs.Scaled.{scaled_suc, scaled_pos, scaled_power, middle}
use Rattle.merkle_tree.proofs.Parts.{root-of_leaf, root-of_sides}

pub holds_is : (ds ms : List Digest) (k i : ℕ) → holds ds ms k i ≡ true → get_or ms (scaled k (i + i + 1)) blank ≡ root_of (part (scaled (suc k) i) (scaled (suc k) 1) ds)
unfolding holds
holds_is ds ms k i h =
    let a = get_or ms (scaled k (i + i + 1)) blank in
    let b = root_of (part (scaled (suc k) i) (scaled (suc k) 1) ds) in
    let e : a.bytes ≡ b.bytes = (bytes_eq-Decides a.bytes b.bytes).0 h in
    λ n. record { bytes = e n }

pub is_holds : (ds ms : List Digest) (k i : ℕ) → get_or ms (scaled k (i + i + 1)) blank ≡ root_of (part (scaled (suc k) i) (scaled (suc k) 1) ds) → holds ds ms k i ≡ true
unfolding holds
is_holds ds ms k i e =
    let a = get_or ms (scaled k (i + i + 1)) blank in
    let b = root_of (part (scaled (suc k) i) (scaled (suc k) 1) ds) in
    (bytes_eq-Decides a.bytes b.bytes).1 (ap (λ (d : Digest). d.bytes) e)

pub split_scaled : (k : ℕ) → split (scaled (suc k) 1) ≡ scaled k 1
split_scaled k = ap split (scaled_power (suc k)) ∙ (split_of_power k ∙ sym (scaled_power k))

module _ (ds ms : List Digest) where
  pub kept_whole : (k i : ℕ) → scaled k (suc i) ≤ length ds → ((l : ℕ) → k ≡ suc l → holds ds ms l i ≡ true) → kept_at ds ms (scaled k i) (scaled k 1) ≡ root_of (part (scaled k i) (scaled k 1) ds)
  kept_whole zero i h f = sym (root-of_leaf ds i blank (omega arith))
  kept_whole (suc k) i h f =
      let size = scaled (suc k) 1 in
      let odd : size ≡ 1 → ⊥ = omega arith in
      let mid : scaled (suc k) i + size / 2 ≡ scaled k (i + i + 1) = omega (arith, middle k i) in
      rw (ne_eqb size 1 odd, mid) (holds_is ds ms k i (f k refl))

  -- the root over two whole subtrees of one size
  pub root-of_pair : (k i : ℕ) → scaled (suc k) (suc i) ≤ length ds →
      root_of (part (scaled (suc k) i) (scaled (suc k) 1) ds) ≡ node_of (root_of (part (scaled (suc k) i) (scaled k 1) ds)) (root_of (part (scaled (suc k) i + scaled k 1) (scaled k 1) ds))
  root-of_pair k i h =
      let one = scaled_pos k in
      let half = split_scaled k in
      let rest : scaled (suc k) 1 - split (scaled (suc k) 1) ≡ scaled k 1 = omega arith in
      root-of_sides ds (scaled (suc k) i) (scaled (suc k) 1) (omega arith) (omega (arith, scaled_suc (suc k) i))
      ∙ ap₂ (λ s t. node_of (root_of (part (scaled (suc k) i) s ds)) (root_of (part (scaled (suc k) i + s) t ds))) half rest
