-- Hash values over blocks.
use Rattle.std.proofs.Common.{◌≡◌, ℕ, zero, suc, ◌+◌, ◌*◌, ◌<◌, ◌≤◌, List, [], ◌∷◌, ◌++◌, length, get_or, take, drop, sym, refl, ap, ◌∙◌, ap₂, add-zero, suc-add, zero-add, add-one, arith}
use Rattle.std.proofs.lemmas.List.{take_more, at_drop_more, at_drop_all, nil_from_length, take-append-le, drop-append-le, length-drop, length-take, take-append-drop, append-nil, append_assoc, drop-drop}
use Rattle.std.specs.List.{flat_map}
use Rattle.std.specs.Simd.{first_chunks}
use Rattle.sha256.specs.Standard.{Words, compress, schedule, plus, blocks, hashed}
use Rattle.sha256.specs.Steps.{column, keys_of, ahead, under_lanes}
use Rattle.sha256.proofs.Ahead.{ahead_is_rounds}
use Rattle.sha256.proofs.Scheduled.{length-schedule}

pub compress_keyed : (s : Words) (bs : List ℕ) → plus s (ahead 64 (keys_of bs) s) ≡ compress s bs
unfolding keys_of compress
compress_keyed s bs = ap (plus s) (ahead_is_rounds (schedule 48 bs) (length-schedule 48 bs) s)

-- the hash value t after the block b, which the keys are of
pub lane_hash : (s s' t : Words) (keys b : List ℕ) → s ≡ s' → keys ≡ keys_of b → t ≡ plus s (ahead 64 keys s) → t ≡ compress s' b
lane_hash s s' t keys b p q e = e ∙ ap₂ (λ x k. plus x (ahead 64 k x)) p q ∙ compress_keyed s' b

pub hashed_append : (s : Words) (xs ys : List (List ℕ)) → hashed s (xs ++ ys) ≡ hashed (hashed s xs) ys
unfolding hashed
hashed_append s [] ys = refl
hashed_append s (x ∷ xs) ys = hashed_append (compress s x) xs ys

-- keys in lanes, and the blocks that they are of
pub lanes_hash : (n : ℕ) (keys bs : List (List ℕ)) (s : Words) → n ≤ length bs → ((l : ℕ) → l < n → column l keys ≡ keys_of (get_or bs l [])) → under_lanes n keys s ≡ hashed s (take n bs)
unfolding under_lanes hashed
lanes_hash zero keys bs s l h = refl
lanes_hash (suc n) keys bs s l h =
    let before = lanes_hash n keys bs s (omega arith) (λ k p. h k (omega arith)) in
    let last : hashed s (take (suc n) bs) ≡ compress (hashed s (take n bs)) (get_or bs n []) =
    ap (hashed s) (ap (λ k. take k bs) (sym (add-one n)) ∙ take_more bs n [] l) ∙ hashed_append s (take n bs) (get_or bs n [] ∷ []) in
    ap₂ (λ t k. plus t (ahead 64 k t)) before (h n (omega arith)) ∙ compress_keyed (hashed s (take n bs)) (get_or bs n []) ∙ sym last

-- the library's cut into blocks is the standard's
chunked_is : (n : ℕ) (bs : List ℕ) → first_chunks 64 n bs ≡ blocks n bs
unfolding blocks
chunked_is zero bs = refl
chunked_is (suc n) bs = ap (λ r. take 64 bs ∷ r) (chunked_is n (drop 64 bs))

-- ---- blocks by fours

-- the blocks of all fours
abbrev pub singles : List (List (List ℕ)) → List (List ℕ)
singles fs = flat_map (λ f. f) fs

pub hashed_nil : (s : Words) (bs : List (List ℕ)) → length bs ≡ 0 → s ≡ hashed s bs
unfolding hashed
hashed_nil s bs e = ap (hashed s) (sym (nil_from_length bs e))

pub fours_more : (s t : Words) (fs : List (List (List ℕ))) (i : ℕ) (d : List (List ℕ)) → i < length fs → t ≡ hashed s (get_or fs i d)
    → hashed t (singles (drop (i + 1) fs)) ≡ hashed s (singles (drop i fs))
fours_more s t fs i d l e =
    let open-it : hashed s (singles (drop i fs)) ≡ hashed s (get_or fs i d ++ singles (drop (i + 1) fs)) = at_drop_more (λ r. hashed s (singles r)) fs i d l in
    ap (λ h. hashed h (singles (drop (i + 1) fs))) e ∙ sym (open-it ∙ hashed_append s (get_or fs i d) (singles (drop (i + 1) fs)))

pub fours_all : (s : Words) (fs : List (List (List ℕ))) (i : ℕ) → length fs ≤ i → hashed s (singles (drop i fs)) ≡ s
unfolding hashed
fours_all s fs i l = at_drop_all (λ r. hashed s (singles r)) fs i l

-- the fours and the rest are all
fours_rest : (k : ℕ) (bs : List (List ℕ)) → singles (first_chunks 4 k bs) ++ drop (k * 4) bs ≡ bs
fours_rest zero bs = refl
fours_rest (suc k) bs =
    let next : suc k * 4 ≡ 4 + k * 4 = omega arith in
    append_assoc (take 4 bs) (singles (first_chunks 4 k (drop 4 bs))) (drop (suc k * 4) bs)
    ∙ ap (λ r. take 4 bs ++ (singles (first_chunks 4 k (drop 4 bs)) ++ r)) (ap (λ n. drop n bs) next ∙ sym (drop-drop (k * 4) 4 bs))
    ∙ ap (λ r. take 4 bs ++ r) (fours_rest k (drop 4 bs)) ∙ take-append-drop 4 bs

-- the hash value t after the fours, and u after the rest
pub fours_then : (s t u : Words) (j k : ℕ) (bytes : List ℕ) (bs : List (List ℕ)) (fs : List (List (List ℕ))) (rest : List (List ℕ))
    → bs ≡ first_chunks 64 j bytes → fs ≡ first_chunks 4 k bs → rest ≡ drop (k * 4) bs → t ≡ hashed s (singles fs) → u ≡ hashed t rest → u ≡ hashed s (blocks j bytes)
fours_then s t u j k bytes bs fs rest d e f g h =
    h ∙ ap (λ x. hashed x rest) g ∙ sym (hashed_append s (singles fs) rest)
    ∙ ap (hashed s) (ap₂ (λ x y. singles x ++ y) e f ∙ fours_rest k bs ∙ d ∙ chunked_is j bytes)

pub blocks_append : (n k : ℕ) (xs ys : List ℕ) → length xs ≡ 64 * n → blocks (n + k) (xs ++ ys) ≡ blocks n xs ++ blocks k ys
unfolding blocks
blocks_append zero k xs ys l = rw (nil_from_length xs (omega arith), zero-add)
blocks_append (suc n) k xs ys l =
    rw (suc-add, take-append-le 64 xs ys (omega arith), drop-append-le 64 xs ys (omega arith))
    (ap (λ r. take 64 xs ∷ r) (blocks_append n k (drop 64 xs) ys (simp length-drop (omega arith))))

-- blocks do not look past their bytes
pub blocks_take : (n m : ℕ) (bs : List ℕ) → m ≡ 64 * n → m ≤ length bs → blocks n (take m bs) ≡ blocks n bs
unfolding blocks
blocks_take n m bs e l =
    let whole : length (take m bs) ≡ 64 * n = simp length-take (omega arith) in
    let cut : blocks (n + 0) (take m bs ++ drop m bs) ≡ blocks n (take m bs) ++ [] = blocks_append n 0 (take m bs) (drop m bs) whole in
    sym (rw (take-append-drop, add-zero, append-nil) at cut)
