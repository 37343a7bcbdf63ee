-- Both sides of a subtree are subtrees, and so are the largest whole one that it begins with and the rest.
use Rattle.std.proofs.Common.{◌≡◌, ℕ, suc, ◌+◌, ◌-◌, ◌≤◌, List, length, sym, ap, ◌∙◌, subst, arith}
use Rattle.merkle_theory.specs.Tree.{split}
use Rattle.merkle_theory.specs.Laws.{PowerOfTwo}
use Rattle.merkle_theory.proofs.Laws.{split_power, split_pos, split_below, split_half, split_unique}
use Rattle.merkle.specs.declared.digest.Digest.{Digest}
use Rattle.merkle.specs.Digests.{node_of}
use Rattle.merkle_tree.specs.Layout.{root_of, part, scaled, Kept, kept_at, Subtree}
use Rattle.merkle_tree.proofs.Scaled.{scaled_suc, scaled_zero, scaled_above, scaled_power, scaled_pos, level_below, finer, middle}
use Rattle.merkle_tree.proofs.Parts.{root-of_sides}
use Rattle.merkle_tree.proofs.Kept.{kept_whole}

-- a power of two is a level's size
level_of : (n : ℕ) → PowerOfTwo n → (k : ℕ) × (n ≡ scaled k 1)
level_of n (k, e) = (k, e ∙ sym (scaled_power k))

-- the first few leaves are a subtree
pub first_leaves : (ds : List Digest) (count : ℕ) → 1 ≤ count → count ≤ length ds → Subtree ds 0 count
first_leaves ds count h l = record { level = count; index = 0; starts = sym (scaled_zero count); fits = omega (arith, scaled_above count); some = h; within = omega arith }

pub first_bounds : (size first : ℕ) → 1 ≤ size → first ≡ split (size + 1) → (1 ≤ first) × (first ≤ size)
first_bounds size first h e =
    let two : 2 ≤ size + 1 = omega arith in
    (omega (arith, split_pos (size + 1) two), omega (arith, split_below (size + 1) two))

module _ {ds : List Digest} {from size : ℕ} (s : Subtree ds from size) where
  pub left_side : (left : ℕ) → 1 ≤ left → left ≤ size → Subtree ds from left
  left_side left h l = record { level = s.level; index = s.index; starts = s.starts; fits = omega (arith, s.fits); some = h; within = omega (arith, s.within) }

  pub right_side : 2 ≤ size → (left : ℕ) → left ≡ split size → Subtree ds (from + left) (size - left)
  right_side two left is =
      let (k, e) = level_of (split size) (split_power size two) in
      let (j, f) = finer (suc k) s.level s.index (level_below k s.level (omega (arith, split_below size two, s.fits))) in
      record {
        level = k;
        index = j + j + 1;
        starts = omega (arith, s.starts, middle k j);
        fits = omega (arith, split_half size two);
        some = omega (arith, split_below size two);
        within = omega (arith, split_below size two, s.within);
      }

  -- the largest whole subtree that it begins with
  pub first_is_left : (first : ℕ) → first ≡ split (size + 1) → (first ≡ size → ⊥) → first ≡ split size
  first_is_left first e n =
      let two : 2 ≤ size + 1 = omega (arith, s.some) in
      let p : PowerOfTwo first = subst PowerOfTwo (sym e) (split_power (size + 1) two) in
      sym (split_unique size first (p, omega (arith, split_below (size + 1) two), omega (arith, split_half (size + 1) two)))

  pub first_kept : (ms : List Digest) (first : ℕ) → first ≡ split (size + 1) → Kept ds ms → kept_at ds ms from first ≡ root_of (part from first ds)
  first_kept ms first e kept =
      let two : 2 ≤ size + 1 = omega (arith, s.some) in
      let (k, f) = level_of (split (size + 1)) (split_power (size + 1) two) in
      let few : first ≤ size = (first_bounds size first s.some e).1 in
      let low = level_below k (suc s.level) (omega (arith, s.fits, scaled_pos s.level)) in
      let (j, g) = finer k s.level s.index (omega arith) in
      let end : scaled k (suc j) ≤ length ds = omega (arith, scaled_suc k j, s.starts, s.within) in
      let P : ℕ → ℕ → Type 0 = λ a n. kept_at ds ms a n ≡ root_of (part a n ds) in
      let here : P (scaled k j) (scaled k 1) = kept_whole ds ms k j end (λ l q. kept l j (omega (arith, ap (λ n. scaled n (suc j)) q))) in
      subst (λ a. P a first) (sym (s.starts ∙ g)) (subst (P (scaled k j)) (sym (e ∙ f)) here)

  -- the root over the two
  pub root-of_first : (first : ℕ) → first ≡ split (size + 1) → (first ≡ size → ⊥) → node_of (root_of (part from first ds)) (root_of (part (from + first) (size - first) ds)) ≡ root_of (part from size ds)
  root-of_first first e n =
      let left = first_is_left first e n in
      let two : 2 ≤ size = omega (arith, first_bounds size first s.some e) in
      ap (λ k. node_of (root_of (part from k ds)) (root_of (part (from + k) (size - k) ds))) left ∙ sym (root-of_sides ds from size two s.within)
