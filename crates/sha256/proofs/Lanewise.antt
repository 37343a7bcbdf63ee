-- Vectors of four words, looked at in one lane: the operations that the code makes of them.
use Rattle.std.proofs.Common.{◌≡◌, ℕ, zero, suc, ◌<◌, List, [], ◌∷◌, length, map, get_or, set, sym, refl, ap, ◌∙◌, ap₂, arith}
use lib.ListN.{length-map}
use lib.Lanes.{zip2}
use Rattle.std.proofs.lemmas.Simd.{get_or-zip2, length-zip2}
use Rattle.std.proofs.lemmas.List.{map-set, get_or-map}
use Rattle.sha256.specs.Steps.{column}

-- xs has four lanes, and v in lane l
pub record Lane (l : ℕ) (xs : List ℕ) (v : ℕ) : Type 0 where
  pub long : length xs ≡ 4
  pub is : get_or xs l 0 ≡ v

pub four_lanes : {A : Type 0} (f : ℕ → A) (z a b c d : A) → a ≡ f 0 → b ≡ f 1 → c ≡ f 2 → d ≡ f 3 → (l : ℕ) → l < 4 → get_or (a ∷ b ∷ c ∷ d ∷ []) l z ≡ f l
four_lanes f z a b c d p q r s zero h = p
four_lanes f z a b c d p q r s (suc zero) h = q
four_lanes f z a b c d p q r s (suc (suc zero)) h = r
four_lanes f z a b c d p q r s (suc (suc (suc zero))) h = s
four_lanes f z a b c d p q r s (suc (suc (suc (suc l)))) h = absurd (omega arith)

module _ (l : ℕ) (h : l < 4) where
  pub its : (xs : List ℕ) → length xs ≡ 4 → Lane l xs (get_or xs l 0)
  its xs e = record { long = e; is = refl }

  -- a value that is known of the lane
  pub told : {xs : List ℕ} {v : ℕ} → length xs ≡ 4 → get_or xs l 0 ≡ v → Lane l xs v
  told e f = record { long = e; is = f }

  pub splat : (n : ℕ) → Lane l (n ∷ n ∷ n ∷ n ∷ []) n
  splat n = record { long = refl; is = four_lanes (λ k. n) 0 n n n n refl refl refl refl l h }

  pub both : (f : ℕ → ℕ → ℕ) {xs ys : List ℕ} {a b : ℕ} → Lane l xs a → Lane l ys b → Lane l (zip2 f xs ys) (f a b)
  both f {xs} {ys} p q =
      let lx = p.long in
      let ly = q.long in
      record {
        long = length-zip2 f xs ys (lx ∙ sym ly) ∙ lx;
        is = get_or-zip2 f xs ys l 0 0 0 (omega arith) (omega arith) ∙ ap₂ f p.is q.is;
      }

  pub each : (f : ℕ → ℕ) {xs : List ℕ} {a : ℕ} → Lane l xs a → Lane l (map f xs) (f a)
  each f {xs} p =
      let lx = p.long in
      record { long = simp length-map lx; is = get_or-map f xs l 0 0 (omega arith) ∙ ap f p.is }

-- ---- one lane of a list of vectors

pub column_set : (l : ℕ) (ws : List (List ℕ)) (t : ℕ) (x : List ℕ) → column l (set ws t x) ≡ set (column l ws) t (get_or x l 0)
column_set l ws t x = map-set (λ k. get_or k l 0) ws t x

pub column_at : (l : ℕ) (ws : List (List ℕ)) (t : ℕ) (d : List ℕ) → t < length ws → get_or (get_or ws t d) l 0 ≡ get_or (column l ws) t 0
column_at l ws t d h = sym (get_or-map (λ k. get_or k l 0) ws t d 0 h)
