-- Rounds whose keys are added one round ahead are the standard's rounds.
use Rattle.std.proofs.Common.{◌≡◌, ℕ, zero, suc, ◌+◌, ◌^◌, ◌<◌, List, [], ◌∷◌, ◌++◌, length, get_or, sym, refl, ap, ◌∙◌, add-one, arith}
use lib.Lanes.{zip2}
use Rattle.std.proofs.lemmas.Simd.{get_or-zip2, length-zip2}
use Rattle.std.proofs.lemmas.List.{get_or_append_left, get_or_at}
use Rattle.sha256.specs.Standard.{Words, ◌⊞◌, K, round, rounds}
use Rattle.sha256.specs.Steps.{turned, with_h, ahead}

sums_agree : (h b c k w : ℕ) → h ⊞ (k ⊞ w) ⊞ b ⊞ c ≡ h ⊞ b ⊞ c ⊞ k ⊞ w
sums_agree h b c k w = omega arith

turned_is_round : (s : Words) (k w x : ℕ) → turned (with_h s (s.h ⊞ (k ⊞ w))) x ≡ with_h (round s k w) x
unfolding turned with_h round
turned_is_round s k w x = simp sums_agree

-- the `g` of words is the `h` of the next
next_h : (s : Words) (k w x : ℕ) → (with_h s x).g ≡ (round s k w).h
unfolding with_h round
next_h s k w x = refl

pub length_K : length K ≡ 64
unfolding K
length_K = refl

keeps_h : (s : Words) (k w : ℕ) → with_h (round s k w) s.g ≡ round s k w
unfolding with_h round
keeps_h s k w = refl

-- the round before which 0 stands ahead
last_turn : (s : Words) (k w x : ℕ) → x ≡ 0 → s.g < 2 ^ 32 → let t = with_h s (s.h ⊞ (k ⊞ w)) in turned t (t.g ⊞ x) ≡ round s k w
unfolding with_h
last_turn s k w x z l =
    let same : s.g ⊞ x ≡ s.g = omega arith in
    turned_is_round s k w (s.g ⊞ x) ∙ ap (with_h (round s k w)) same ∙ keeps_h s k w

-- after three rounds each word is a sum
g_is_word : (s : Words) (k w k' w' k'' w'' : ℕ) → (round (round (round s k w) k' w') k'' w'').g < 2 ^ 32
unfolding round
g_is_word s k w k' w' k'' w'' = omega arith

module _ (W : List ℕ) (long : length W ≡ 64) where
  abbrev keys : List ℕ
  keys = zip2 ◌⊞◌ K W ++ 0 ∷ []

  length-keys : length (zip2 ◌⊞◌ K W) ≡ 64
  length-keys = length-zip2 ◌⊞◌ K W (length_K ∙ sym long) ∙ length_K

  key : (n : ℕ) → n < 64 → get_or keys n 0 ≡ get_or K n 0 ⊞ get_or W n 0
  key n l =
      get_or_append_left (zip2 ◌⊞◌ K W) (0 ∷ []) 0 n (omega (arith, length-keys))
      ∙ get_or-zip2 ◌⊞◌ K W n 0 0 0 (omega (arith, length_K)) (omega arith)

  last : get_or keys 64 0 ≡ 0
  last = get_or_at (zip2 ◌⊞◌ K W) 0 [] 0 64 length-keys

  ahead_is : (n : ℕ) (s : Words) → n < 64 → ahead n keys s ≡ with_h (rounds n W s) ((rounds n W s).h ⊞ (get_or K n 0 ⊞ get_or W n 0))
  unfolding ahead rounds
  ahead_is zero s l = rw (key 0 l)
  ahead_is (suc n) s l =
      let before : n < 64 = omega arith in
      rw (ahead_is n s before, key (suc n) l, turned_is_round, next_h (rounds n W s) (get_or K n 0) (get_or W n 0))

  ahead_step : (n : ℕ) (s : Words) → let t = ahead n keys s in ahead (suc n) keys s ≡ turned t (t.g ⊞ get_or keys (suc n) 0)
  unfolding ahead
  ahead_step n s = refl

  rounds_step : (n : ℕ) (s : Words) → rounds (suc n) W s ≡ round (rounds n W s) (get_or K n 0) (get_or W n 0)
  unfolding rounds
  rounds_step n s = refl

  rounds_word : (n : ℕ) (s : Words) → (rounds (suc (suc (suc n))) W s).g < 2 ^ 32
  unfolding rounds
  rounds_word n s = g_is_word (rounds n W s) _ _ _ _ _ _

  -- the last round
  ahead_ends : (n : ℕ) (s : Words) → n < 64 → (rounds n W s).g < 2 ^ 32 → get_or keys (suc n) 0 ≡ 0 → ahead (suc n) keys s ≡ rounds (suc n) W s
  ahead_ends n s l f z =
      ahead_step n s ∙ ap (λ t. turned t (t.g ⊞ get_or keys (suc n) 0)) (ahead_is n s l)
      ∙ last_turn (rounds n W s) (get_or K n 0) (get_or W n 0) (get_or keys (suc n) 0) z f ∙ sym (rounds_step n s)

  pub ahead_is_rounds : (s : Words) → ahead 64 keys s ≡ rounds 64 W s
  ahead_is_rounds s = ahead_ends 63 s (omega arith) (rounds_word 60 s) last

-- ---- the code's loop

-- one more turn
pub ahead_more : (keys : List ℕ) (s t r : Words) (n m : ℕ) → t ≡ ahead n keys s → m ≡ n + 1 → r ≡ turned t (t.g ⊞ get_or keys (n + 1) 0) → r ≡ ahead m keys s
unfolding ahead
ahead_more keys s t r n m e f g = g ∙ rw (f, add-one, e)

pub ahead_at : (keys : List ℕ) (s t : Words) (n m : ℕ) → n ≡ m → t ≡ ahead n keys s → t ≡ ahead m keys s
ahead_at keys s t n m e f = f ∙ ap (λ k. ahead k keys s) e
