-- Multiples of powers of two, as sums: the arithmetic of places in the tree.
use Rattle.std.proofs.Common.{◌≡◌, ℕ, zero, suc, ◌+◌, ◌*◌, ◌^◌, ◌<◌, ◌≤◌, sym, refl, ap, ◌∙◌, inl, inr, mul-one, mul-add, arith}
use Rattle.std.proofs.lemmas.Bool.{cases_lt}
use Rattle.merkle_tree.specs.Layout.{scaled}

pub scaled_add : (k i j : ℕ) → scaled k (i + j) ≡ scaled k i + scaled k j
scaled_add zero i j = refl
scaled_add (suc k) i j = omega (arith, scaled_add k i j)

pub scaled_suc : (k i : ℕ) → scaled k (suc i) ≡ scaled k i + scaled k 1
scaled_suc zero i = omega arith
scaled_suc (suc k) i = omega (arith, scaled_suc k i)

pub scaled_zero : (k : ℕ) → scaled k 0 ≡ 0
scaled_zero zero = refl
scaled_zero (suc k) = omega (arith, scaled_zero k)

pub scaled_mono : (k i j : ℕ) → i ≤ j → scaled k i ≤ scaled k j
scaled_mono zero i j h = h
scaled_mono (suc k) i j h = omega (arith, scaled_mono k i j h)

pub scaled_pos : (k : ℕ) → 1 ≤ scaled k 1
scaled_pos zero = omega arith
scaled_pos (suc k) = omega (arith, scaled_pos k)

pub scaled_power : (k : ℕ) → scaled k 1 ≡ 2 ^ k
scaled_power zero = refl
scaled_power (suc k) = omega (arith, scaled_power k)

pub scaled_times : (k i : ℕ) → scaled k i ≡ i * scaled k 1
scaled_times zero i = sym (mul-one i)
scaled_times (suc k) i = omega (arith, scaled_times k i, mul-add i (scaled k 1) (scaled k 1))

-- the middle of the subtree number i over 2 ^ (k + 1) leaves
pub middle : (k i : ℕ) → scaled k (i + i + 1) ≡ scaled (suc k) i + scaled k 1
middle k i = omega (arith, scaled_add k (i + i) 1, scaled_add k i i)

-- each middle is that of one subtree
pub middle_once : (k i l j : ℕ) → scaled k (i + i + 1) ≡ scaled l (j + j + 1) → (k ≡ l) × (i ≡ j)
middle_once zero i zero j e = (refl, omega arith)
middle_once zero i (suc l) j e = absurd (omega arith)
middle_once (suc k) i zero j e = absurd (omega arith)
middle_once (suc k) i (suc l) j e = let (p, q) = middle_once k i l j (omega arith) in (ap suc p, q)

-- a multiple of a larger power of two is one of the smaller
pub finer : (k l i : ℕ) → k ≤ l → (j : ℕ) × (scaled l i ≡ scaled k j)
finer k zero i h = let e : zero ≡ k = omega arith in (i, ap (λ n. scaled n i) e)
finer k (suc l) i h = elim (cases_lt l k) [
  | inl s ↦ let e : suc l ≡ k = omega arith in (i, ap (λ n. scaled n i) e)
  | inr s ↦ let (j, e) = finer k l (i + i) s in (j, sym (scaled_add l i i) ∙ e)
]

-- sizes grow with levels
pub level_below : (k l : ℕ) → scaled k 1 < scaled l 1 → k < l
level_below k zero h = absurd (omega (arith, scaled_pos k))
level_below zero (suc l) h = omega arith
level_below (suc k) (suc l) h = omega (arith, level_below k l (omega arith))

pub scaled_above : (k : ℕ) → k < scaled k 1
scaled_above zero = omega arith
scaled_above (suc k) = omega (arith, scaled_above k)
