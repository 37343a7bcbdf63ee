-- The size of the left side by its logarithm, and how deep a way down can get.
use Rattle.std.proofs.Common.{◌≡◌, ℕ, zero, suc, ◌+◌, ◌-◌, ◌*◌, ◌%◌, ◌^◌, ◌<◌, ◌≤◌, sym, refl, ap, ◌∙◌, subst, inl, inr, add-one, arith, pow_mono}
use Rattle.std.proofs.lemmas.Nat.{one_shl}
use Rattle.std.proofs.lemmas.Bool.{cases_lt}
use Rattle.merkle_theory.specs.Tree.{split, doubled}
use Rattle.merkle_theory.proofs.Laws.{split_pos, split_below, split_unique, split_within, rest_within}
use Rattle.merkle.specs.declared.way.Way.{Way}
use Rattle.merkle.specs.Ways.{Below}

pub left_of_few : (n : ℕ) → n < 2 → split n ≡ 1
unfolding split doubled
left_of_few zero h = refl
left_of_few (suc zero) h = refl
left_of_few (suc (suc n)) h = absurd (omega arith)

pub left_of_log : (n k : ℕ) → 2 ≤ n → 2 ^ k ≤ n - 1 → n - 1 < 2 * 2 ^ k → split n ≡ 2 ^ k
left_of_log n k h low high = split_unique n (2 ^ k) ((k, refl), omega arith, omega arith)

-- the same of `1 << k`
pub left_by_log : (n k : ℕ) → 2 ≤ n → 2 ^ k ≤ n - 1 → n - 1 < 2 * 2 ^ k → k < 64 → (1 * 2 ^ k) % 2 ^ 64 ≡ split n
left_by_log n k h low high l = one_shl k 64 l ∙ sym (left_of_log n k h low high)

-- One level further down. There are at most 2 ^ (64 - levels) leaves, so that 64 bits tell the turns.
module _ (w : Way) (many : 2 ≤ w.count) where
  pub room_below : w.levels < 64
  room_below = elim (cases_lt w.levels 64) [
    | inl l ↦ l
    | inr l ↦ let one : w.count ≤ 1 = subst (λ k. w.count ≤ 2 ^ k) (last l) w.small in absurd (omega arith)
  ]
    where
      last : 64 ≤ w.levels → 64 - w.levels ≡ 0
      last l = omega arith

  twice : w.count ≤ 2 ^ suc (64 - (w.levels + 1))
  twice = let e : 64 - w.levels ≡ suc (64 - (w.levels + 1)) = omega (arith, room_below) in subst (λ k. w.count ≤ 2 ^ k) e w.small

  pub left_small : split w.count ≤ 2 ^ (64 - (w.levels + 1))
  left_small = split_within (64 - (w.levels + 1)) w.count many twice

  pub right_small : w.count - split w.count ≤ 2 ^ (64 - (w.levels + 1))
  right_small = rest_within (64 - (w.levels + 1)) w.count many twice

  pub turn_noted : w.turns * 2 + 1 < 2 ^ (w.levels + 1)
  turn_noted = let e : 2 ^ (w.levels + 1) ≡ 2 ^ suc w.levels = ap (λ k. 2 ^ k) (add-one w.levels) in omega (arith, w.noted)

  pub turn_fits : w.turns * 2 + 1 < 2 ^ 64
  turn_fits =
      let deeper : w.levels + 1 ≤ 64 = omega (arith, room_below) in
      let up : 2 ^ (w.levels + 1) ≤ 2 ^ 64 = pow_mono deeper in
      omega (arith, turn_noted)

pub fewer_below : (w v : Way) → 2 ≤ w.count → Below w v → v.count < w.count
fewer_below w v two below =
    elim below [ inl (here, en, em, et, el) ↦ omega (arith, split_below w.count two) | inr (here, en, em, et, el) ↦ omega (arith, split_pos w.count two) ]

pub level_below : (w v : Way) → Below w v → v.levels ≡ w.levels + 1
level_below w v below = elim below [ inl (here, en, em, et, el) ↦ el | inr (here, en, em, et, el) ↦ el ]
