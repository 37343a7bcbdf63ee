-- A message of 65 bytes, padded to two blocks.
use Rattle.std.proofs.Common.{◌≡◌, ℕ, suc, ◌+◌, ◌-◌, ◌*◌, ◌/◌, ◌<◌, ◌≤◌, List, [], ◌∷◌, ◌++◌, length, get_or, take, drop, set, replicate, sym, refl, ap, ◌∙◌, arith}
use lib.Seq.{length-paste, paste}
use Rattle.std.proofs.lemmas.List.{take_all, take_more, length-append, length-take-le, append_assoc, get_or-take, get_or-drop, get_or_append_left, get_or-replicate}
use Rattle.sha256.specs.Standard.{Words, H0, compress, blocks, hashed, output, padded, bytes64, word_at, digest}
use Rattle.sha256.proofs.Whole.{blocks_append}
use Rattle.sha256.proofs.Pasted.{take_paste, paste_to_end}

pub tagged_is : (tag : ℕ) (l r d e : List ℕ) → length l ≡ 32 → length r ≡ 32
    → d ≡ paste (set (replicate 65 0) 0 tag) 1 l (length l) → e ≡ paste d 33 r (length r) → e ≡ tag ∷ (l ++ r)
tagged_is tag l r d e ll lr p q =
    let front : take 33 d ≡ tag ∷ l = ap (take 33) p ∙ take_paste (tag ∷ replicate 64 0) l 1 (length l) 33 refl (omega arith) (omega arith) in
    let long : length d ≡ 65 = ap length p ∙ length-paste (tag ∷ replicate 64 0) 1 l (length l) (omega arith) (omega arith) in
    paste_to_end d r e 33 q (omega arith) ∙ ap (λ x. x ++ r) front

pub node_digest : (m b : List ℕ) (w : Words) → length m ≡ 65 → length b ≡ 128 → b ≡ m ++ 0x80 ∷ replicate (128 - 9 - length m) 0 ++ bytes64 520
    → w ≡ hashed H0 (blocks (length b / 64) b) → output w ≡ digest m
unfolding digest padded
node_digest m b w lm lb e g =
    let all : b ≡ padded m = e ∙ rw lm in
    ap output (g ∙ rw all)

-- by its two blocks
pub two_blocks : (tag : ℕ) (pair : List ℕ) (v w : Words) → length pair ≡ 64 → v ≡ compress H0 (tag ∷ take 63 pair)
    → w ≡ compress v (get_or pair 63 0 ∷ 0x80 ∷ (replicate 54 0 ++ bytes64 520)) → output w ≡ digest (tag ∷ pair)
unfolding blocks hashed
two_blocks tag pair v w l p q =
    let front = tag ∷ take 63 pair in
    let back = get_or pair 63 0 ∷ 0x80 ∷ (replicate 54 0 ++ bytes64 520) in
    let size : length front ≡ 64 = omega (arith, length-take-le 63 pair (omega arith)) in
    let last : pair ≡ take 63 pair ++ get_or pair 63 0 ∷ [] = sym (take_all 64 pair (omega arith)) ∙ take_more pair 63 0 (omega arith) in
    let all : length (front ++ back) ≡ 128 = length-append front back ∙ omega arith in
    let message : front ++ back ≡ (tag ∷ pair) ++ 0x80 ∷ replicate 54 0 ++ bytes64 520 =
    sym (ap (λ x. (tag ∷ x) ++ 0x80 ∷ replicate 54 0 ++ bytes64 520) last ∙ simp append_assoc) in
    let cut : blocks 2 (front ++ back) ≡ front ∷ back ∷ [] =
    blocks_append 1 1 front back size ∙ ap (λ x. x ∷ back ∷ []) (take_all 64 front (omega arith)) in
    node_digest (tag ∷ pair) (front ++ back) w (omega arith) all
    (message ∙ rw l)
    (q ∙ ap (λ x. compress x back) p ∙ sym (ap (λ n. hashed H0 (blocks (n / 64) (front ++ back))) all ∙ ap (hashed H0) cut))

-- ---- the words of the two blocks

-- byte k of what is left of the pair past its first three
tagged_byte : (tag : ℕ) (p : List ℕ) (k j : ℕ) → j ≡ k + 4 → k < 60 → get_or (take 61 (drop 3 p)) k 0 ≡ get_or (tag ∷ take 63 p) j 0
tagged_byte tag p k j e h =
    let at : j ≡ suc (3 + k) = omega arith in
    get_or-take 61 (drop 3 p) k 0 (omega arith) ∙ get_or-drop 3 p k 0
    ∙ sym (ap (λ n. get_or (tag ∷ take 63 p) n 0) at ∙ get_or-take 63 p (3 + k) 0 (omega arith))

pub tagged_word : (tag : ℕ) (p : List ℕ) (t : ℕ) → 0 < t → t < 16 → word_at (take 61 (drop 3 p)) (t - 1) ≡ word_at (tag ∷ take 63 p) t
tagged_word tag p t z h =
    let at = 4 * (t - 1) in
    rw (
      tagged_byte tag p at (4 * t) (omega arith) (omega arith),
      tagged_byte tag p (at + 1) (4 * t + 1) (omega arith) (omega arith),
      tagged_byte tag p (at + 2) (4 * t + 2) (omega arith) (omega arith),
      tagged_byte tag p (at + 3) (4 * t + 3) (omega arith) (omega arith),
    )

zero_byte : (x j : ℕ) → 2 ≤ j → j < 62 → get_or (x ∷ 0x80 ∷ (replicate 54 0 ++ bytes64 520)) j 0 ≡ 0
zero_byte x j p q =
    let at : j ≡ suc (suc (j - 2)) = omega arith in
    ap (λ n. get_or (x ∷ 0x80 ∷ (replicate 60 0 ++ 2 ∷ 8 ∷ [])) n 0) at
    ∙ get_or_append_left (replicate 60 0) (2 ∷ 8 ∷ []) 0 (j - 2) (omega arith) ∙ get_or-replicate 60 (j - 2) 0 0 (omega arith)

pub zero_word : (x t : ℕ) → 0 < t → t < 15 → 0 ≡ word_at (x ∷ 0x80 ∷ (replicate 54 0 ++ bytes64 520)) t
zero_word x t p q =
    rw (
      zero_byte x (4 * t) (omega arith) (omega arith),
      zero_byte x (4 * t + 1) (omega arith) (omega arith),
      zero_byte x (4 * t + 2) (omega arith) (omega arith),
      zero_byte x (4 * t + 3) (omega arith) (omega arith),
    )
