-- What stands in a place after bytes were put there.
use Rattle.std.proofs.Common.{◌≡◌, ℕ, suc, ◌+◌, ◌*◌, ◌<◌, ◌≤◌, List, [], ◌∷◌, ◌++◌, length, get_or, take, drop, sym, refl, ap, ◌∙◌, arith}
use lib.Seq.{length-paste, paste}
use Rattle.std.specs.List.{flat_map}
use Rattle.std.proofs.lemmas.List.{take_all, take_at, length-append, length-take-le}
use Rattle.sha256.specs.Standard.{bytes32}

-- up to the end of what was put
pub take_paste : (d s : List ℕ) (at n m : ℕ) → n ≡ length s → m ≡ at + n → at ≤ length d → take m (paste d at s n) ≡ take at d ++ s
take_paste d s at n m e f l =
    let same : take n s ≡ s = take_all n s (omega arith) in
    let long : length (take at d ++ s) ≡ m = simp (length-append, length-take-le at d l) (omega arith) in
    rw same (take_at (take at d ++ s) (drop (at + n) d) m long)

-- where it was put at the end
pub paste_to_end : (d s e : List ℕ) (at : ℕ) → e ≡ paste d at s (length s) → at + length s ≡ length d → e ≡ take at d ++ s
paste_to_end d s e at p l =
    let long : length e ≡ length d = ap length p ∙ length-paste d at s (length s) (omega arith) (omega arith) in
    sym (take_all (length d) e (omega arith)) ∙ ap (take (length d)) p ∙ take_paste d s at (length s) (length d) refl (omega arith) (omega arith)

-- bytes that are words, each in four
pub by_fours : (ws ys : List ℕ) → length ys ≡ 4 * length ws → ((i j : ℕ) → i < length ws → j < 4 → get_or ys (4 * i + j) 0 ≡ get_or (bytes32 (get_or ws i 0)) j 0)
    → ys ≡ flat_map bytes32 ws
by_fours [] [] l h = refl
by_fours [] (y ∷ ys) l h = absurd (omega arith)
by_fours (w ∷ ws) [] l h = absurd (omega arith)
by_fours (w ∷ ws) (a ∷ []) l h = absurd (omega arith)
by_fours (w ∷ ws) (a ∷ b ∷ []) l h = absurd (omega arith)
by_fours (w ∷ ws) (a ∷ b ∷ c ∷ []) l h = absurd (omega arith)
by_fours (w ∷ ws) (a ∷ b ∷ c ∷ d ∷ ys) l h =
    let p = h 0 0 (omega arith) (omega arith) in
    let q = h 0 1 (omega arith) (omega arith) in
    let r = h 0 2 (omega arith) (omega arith) in
    let s = h 0 3 (omega arith) (omega arith) in
    let rest = by_fours ws ys (omega arith) (λ i j u v. let at : suc (suc (suc (suc (4 * i + j)))) ≡ 4 * suc i + j = omega arith in
    ap (λ n. get_or (a ∷ b ∷ c ∷ d ∷ ys) n 0) at ∙ h (suc i) j (omega arith) v) in
    cc
