-- The elements of the library's chunks.
use Rattle.std.proofs.Common.{◌≡◌, ℕ, zero, suc, ◌+◌, ◌*◌, ◌/◌, ◌^◌, ◌<◌, List, [], length, get_or, take, drop, refl, ap, ◌∙◌, arith, length-take, length-drop}
use Rattle.std.proofs.lemmas.List.{get_or-take, get_or-drop}
use Rattle.std.specs.Simd.{first_chunks}
use Rattle.sha256.specs.Standard.{word_at}

pub chunk_at : {X : Type 0} (n k : ℕ) (xs : List X) (i j at : ℕ) (d : X) → at ≡ n * i + j → i < k → j < n
    → get_or (get_or (first_chunks n k xs) i []) j d ≡ get_or xs at d
chunk_at n zero xs i j at d e h l = absurd (omega arith)
chunk_at n (suc k) xs zero j at d e h l =
    let place : j ≡ at = omega arith in
    get_or-take n xs j d l ∙ ap (λ p. get_or xs p d) place
chunk_at n (suc k) xs (suc i) j at d e h l =
    let place : n + (n * i + j) ≡ at = omega arith in
    chunk_at n k (drop n xs) i j (n * i + j) d refl (omega arith) l ∙ get_or-drop n xs (n * i + j) d ∙ ap (λ p. get_or xs p d) place

-- after the first, by eights
pub eights_at : {X : Type 0} (xs : List X) (cs : List (List X)) (i j : ℕ) (d : X) → length xs ≡ 65 → cs ≡ first_chunks 8 (length (take 64 (drop 1 xs)) / 8) (take 64 (drop 1 xs))
    → i < length cs → length cs ≡ length (take 64 (drop 1 xs)) / 8 → j < 8 → get_or (get_or cs i []) j d ≡ get_or xs (8 * i + j + 1) d
eights_at xs cs i j d n e l k h =
    let size : length (take 64 (drop 1 xs)) ≡ 64 = simp (length-take, length-drop) (omega arith) in
    let place : 1 + (8 * i + j) ≡ 8 * i + j + 1 = omega arith in
    ap (λ c. get_or (get_or c i []) j d) e ∙ chunk_at 8 (length (take 64 (drop 1 xs)) / 8) (take 64 (drop 1 xs)) i j (8 * i + j) d refl (omega arith) h
    ∙ get_or-take 64 (drop 1 xs) (8 * i + j) d (omega arith) ∙ get_or-drop 1 xs (8 * i + j) d ∙ ap (λ p. get_or xs p d) place

-- a word of a block, by the fours of its bytes
pub word_of : (cs : List (List ℕ)) (xs : List ℕ) (k t : ℕ) → cs ≡ first_chunks 4 k xs → t < k
    → get_or (get_or cs t []) 0 0 * 2 ^ 24 + get_or (get_or cs t []) 1 0 * 2 ^ 16 + get_or (get_or cs t []) 2 0 * 2 ^ 8 + get_or (get_or cs t []) 3 0 ≡ word_at xs t
word_of cs xs k t e h =
    let byte : (j at : ℕ) → at ≡ 4 * t + j → j < 4 → get_or (get_or cs t []) j 0 ≡ get_or xs at 0 =
    λ j at p l. ap (λ c. get_or (get_or c t []) j 0) e ∙ chunk_at 4 k xs t j at 0 p h l in
    rw (byte 0 (4 * t) (omega arith) (omega arith), byte 1 (4 * t + 1) refl (omega arith), byte 2 (4 * t + 2) refl (omega arith), byte 3 (4 * t + 3) refl (omega arith))
