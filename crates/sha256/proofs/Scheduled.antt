-- The message schedule, as the code fills it in.
use Rattle.std.proofs.Common.{◌≡◌, ℕ, zero, suc, ◌+◌, ◌-◌, ◌<◌, ◌≤◌, List, [], ◌∷◌, ◌++◌, length, get_or, take, drop, set, sym, refl, ap, ◌∙◌, subst, ap₂, suc-add, zero-add, add-one, arith, length-set}
use lib.ListN.{length-map}
use lib.Lanes.{zip2}
use Rattle.std.proofs.lemmas.List.{take_more, take_more_set, take_all, get_or-take, length-append, length-take-le, set_at, append_assoc, drop_more, drop_all, get_or_at, get_or_append_left}
use Rattle.std.proofs.lemmas.Simd.{get_or-zip2, length-zip2}
use Rattle.sha256.specs.Standard.{◌⊞◌, SSIG0, SSIG1, K, word_at, first_words, schedule}
use Rattle.sha256.specs.Steps.{column, keys_of}
use Rattle.sha256.proofs.Ahead.{length_K}
use Rattle.sha256.proofs.Lanewise.{column_set}

pub length-first_words : (n : ℕ) (bs : List ℕ) → length (first_words n bs) ≡ n
unfolding first_words
length-first_words zero bs = refl
length-first_words (suc n) bs = simp (length-append, length-first_words n bs, add-one)

pub length-schedule : (n : ℕ) (bs : List ℕ) → length (schedule n bs) ≡ n + 16
unfolding schedule
length-schedule zero bs = length-first_words 16 bs
length-schedule (suc n) bs = simp (length-append, length-schedule n bs) (omega arith)

first_more : (bs w : List ℕ) (t x : ℕ) → t < length w → take t w ≡ first_words t bs → x ≡ word_at bs t → take (t + 1) (set w t x) ≡ first_words (t + 1) bs
unfolding first_words
first_more bs w t x l e f = take_more_set w t x l ∙ rw (e, f, add-one t)

-- word t, where t is 16 + n
next_more : (bs w : List ℕ) (n t x : ℕ) → t ≡ n + 16 → t < length w → take t w ≡ schedule n bs
    → x ≡ SSIG1 (get_or w (t - 2) 0) ⊞ get_or w (t - 7) 0 ⊞ SSIG0 (get_or w (t - 15) 0) ⊞ get_or w (t - 16) 0
    → take (t + 1) (set w t x) ≡ schedule (suc n) bs
unfolding schedule
next_more bs w n t x h l e f =
    let at : (i j : ℕ) → i ≡ j → j < t → get_or w i 0 ≡ get_or (schedule n bs) j 0 =
    λ i j p q. ap (λ k. get_or w k 0) p ∙ sym (get_or-take t w j 0 q) ∙ ap (λ v. get_or v j 0) e in
    take_more_set w t x l
    ∙ rw (
      e,
      f,
      at (t - 2) (n + 14) (omega arith) (omega arith),
      at (t - 7) (n + 9) (omega arith) (omega arith),
      at (t - 15) (n + 1) (omega arith) (omega arith),
      at (t - 16) n (omega arith) (omega arith),
    )

schedule_more : (bs w : List ℕ) (t x : ℕ) → 16 ≤ t → t < length w → take t w ≡ schedule (t - 16) bs
    → x ≡ SSIG1 (get_or w (t - 2) 0) ⊞ get_or w (t - 7) 0 ⊞ SSIG0 (get_or w (t - 15) 0) ⊞ get_or w (t - 16) 0
    → take (t + 1) (set w t x) ≡ schedule (t + 1 - 16) bs
schedule_more bs w t x b l e f =
    let next : suc (t - 16) ≡ t + 1 - 16 = omega arith in
    next_more bs w (t - 16) t x (omega arith) l e f ∙ ap (λ k. schedule k bs) next

first_at : (m k : ℕ) (bs : List ℕ) → get_or (first_words (m + suc k) bs) k 0 ≡ word_at bs k
unfolding first_words
first_at zero k bs = rw zero-add (get_or_at (first_words k bs) (word_at bs k) [] 0 k (length-first_words k bs))
first_at (suc m) k bs =
    rw suc-add
    (get_or_append_left (first_words (m + suc k) bs) (word_at bs (m + suc k) ∷ []) 0 k (omega (arith, length-first_words (m + suc k) bs)) ∙ first_at m k bs)

-- the words of the block come first in its schedule
pub schedule_first : (n k : ℕ) (bs : List ℕ) → k < 16 → get_or (schedule n bs) k 0 ≡ word_at bs k
unfolding schedule
schedule_first zero k bs h =
    let all : 16 ≡ 15 - k + suc k = omega arith in
    ap (λ m. get_or (first_words m bs) k 0) all ∙ first_at (15 - k) k bs
schedule_first (suc n) k bs h = get_or_append_left (schedule n bs) _ 0 k (omega (arith, length-schedule n bs)) ∙ schedule_first n k bs h

-- four lanes, in which the first t words of the blocks f stand
pub record Begun (t : ℕ) (f : ℕ → List ℕ) (ks : List (List ℕ)) : Type 0 where
  pub long : length ks ≡ 65
  pub words : (l : ℕ) → l < 4 → take t (column l ks) ≡ first_words t (f l)

pub begun_none : (f : ℕ → List ℕ) (ks : List (List ℕ)) → length ks ≡ 65 → Begun 0 f ks
unfolding first_words
begun_none f ks n = record { long = n; words = λ l h. refl }

pub begun_more : (t : ℕ) (f : ℕ → List ℕ) (ks : List (List ℕ)) (x : List ℕ) → t < 16 → Begun t f ks → ((l : ℕ) → l < 4 → get_or x l 0 ≡ word_at (f l) t) → Begun (t + 1) f (set ks t x)
begun_more t f ks x n b e =
    let long = b.long in
    record {
      long = simp length-set b.long;
      words = λ l h. ap (take (t + 1)) (column_set l ks t x) ∙ first_more (f l) (column l ks) t _ (simp length-map (omega arith)) (b.words l h) (e l h);
    }

pub begun_at : (t u : ℕ) (f : ℕ → List ℕ) (ks : List (List ℕ)) → t ≡ u → Begun t f ks → Begun u f ks
begun_at t u f ks e b = subst (λ n. Begun n f ks) e b

-- four lanes, in which the first t words are made where the first s were made before
pub record Made (s t : ℕ) (was ks : List (List ℕ)) : Type 0 where
  pub long : length ks ≡ 65
  pub words : (l : ℕ) → l < 4 → (b : List ℕ) → take s (column l was) ≡ schedule (s - 16) b → take t (column l ks) ≡ schedule (t - 16) b

pub made_none : (s t : ℕ) (ks : List (List ℕ)) → s ≡ t → length ks ≡ 65 → Made s t ks ks
made_none s t ks e n = subst (λ u. Made s u ks ks) e (record { long = n; words = λ l h b p. p })

pub made_at : (s t u : ℕ) (was ks : List (List ℕ)) → t ≡ u → Made s t was ks → Made s u was ks
made_at s t u was ks e m = subst (λ n. Made s n was ks) e m

pub made_then : (s t u v : ℕ) (was mid ks : List (List ℕ)) → u ≡ v → Made s t was mid → Made t u mid ks → Made s v was ks
made_then s t u v was mid ks e m n =
    subst (λ k. Made s k was ks) e (record { long = n.long; words = λ l h b p. n.words l h b (m.words l h b p) })

pub made_more : (s t u : ℕ) (was ks : List (List ℕ)) (x : List ℕ) → 16 ≤ t → t < 64 → t + 1 ≡ u → Made s t was ks
    → ((l : ℕ) → l < 4 → get_or x l 0
    ≡ SSIG1 (get_or (column l ks) (t - 2) 0) ⊞ get_or (column l ks) (t - 7) 0 ⊞ SSIG0 (get_or (column l ks) (t - 15) 0) ⊞ get_or (column l ks) (t - 16) 0)
    → Made s u was (set ks t x)
made_more s t u was ks x a n e m f =
    let long = m.long in
    subst (λ k. Made s k was (set ks t x)) e
    (record {
      long = simp length-set m.long;
      words =
          λ l h b p. ap (take (t + 1)) (column_set l ks t x)
          ∙ schedule_more b (column l ks) t _ a (simp length-map (omega arith)) (m.words l h b p) (f l h);
    })

pub schedule_all : (bs w : List ℕ) (t : ℕ) → t ≡ 64 → take t w ≡ schedule (t - 16) bs → take 64 w ≡ schedule 48 bs
schedule_all bs w t e f = ap (λ n. take n w) (sym e) ∙ f ∙ ap (λ n. schedule (n - 16) bs) e

-- ---- the keys, one after the other in place of what stood there, with a 0 after them

-- one lane, which was was, with the first t keys written
abbrev pub KeysTo : ℕ → List ℕ → List ℕ → List ℕ → Type 0
KeysTo t bs was col = col ≡ take t (zip2 ◌⊞◌ K (schedule 48 bs)) ++ drop t was

module _ (bs was : List ℕ) (whole : length was ≡ 65) where
  abbrev Z : List ℕ
  Z = zip2 ◌⊞◌ K (schedule 48 bs)

  length_Z : length Z ≡ 64
  length_Z = length-zip2 ◌⊞◌ K (schedule 48 bs) (length_K ∙ sym (length-schedule 48 bs)) ∙ length_K

  at_Z : (t : ℕ) → t < 64 → get_or Z t 0 ≡ get_or K t 0 ⊞ get_or (schedule 48 bs) t 0
  at_Z t l = get_or-zip2 ◌⊞◌ K (schedule 48 bs) t 0 0 0 (omega (arith, length_K)) (omega (arith, length-schedule 48 bs))

  front : (t : ℕ) → t < 64 → length (take t Z) ≡ t
  front t l = length-take-le t Z (omega (arith, length_Z))

  -- what stands at t is still to be written over
  pub keys_left : (col : List ℕ) (t : ℕ) → t < 64 → KeysTo t bs was col → get_or col t 0 ≡ get_or was t 0
  keys_left col t l e =
      ap (λ v. get_or v t 0) (e ∙ ap (λ r. take t Z ++ r) (drop_more was t 0 (omega arith)))
      ∙ get_or_at (take t Z) (get_or was t 0) (drop (t + 1) was) 0 t (front t l)

  pub keys_more : (col : List ℕ) (t x : ℕ) → t < 64 → KeysTo t bs was col → x ≡ get_or K t 0 ⊞ get_or (schedule 48 bs) t 0 → KeysTo (t + 1) bs was (set col t x)
  keys_more col t x l e f =
      let rest = drop (t + 1) was in
      let put : set col t x ≡ take t Z ++ x ∷ rest =
      ap (λ v. set v t x) (e ∙ ap (λ r. take t Z ++ r) (drop_more was t 0 (omega arith))) ∙ set_at (take t Z) (get_or was t 0) rest x t (front t l) in
      let next : take (t + 1) Z ≡ take t Z ++ x ∷ [] =
      take_more Z t 0 (omega (arith, length_Z)) ∙ ap (λ y. take t Z ++ y ∷ []) (at_Z t l ∙ sym f) in
      put ∙ sym (ap (λ v. v ++ rest) next ∙ append_assoc (take t Z) (x ∷ []) rest)

  -- and the 0 after them
  pub keys_all : (col : List ℕ) (t : ℕ) → t ≡ 64 → KeysTo t bs was col → set col 64 0 ≡ keys_of bs
  unfolding keys_of
  keys_all col t l e =
      let whole-Z : take 64 Z ≡ Z = take_all 64 Z (omega (arith, length_Z)) in
      ap (λ c. set c 64 0) (e ∙ ap (λ n. take n Z ++ drop n was) l ∙ ap₂ (λ v r. v ++ r) whole-Z (drop_more was 64 0 (omega arith)))
      ∙ set_at Z (get_or was 64 0) (drop 65 was) 0 64 length_Z ∙ ap (λ r. Z ++ 0 ∷ r) (drop_all 65 was (omega arith))
