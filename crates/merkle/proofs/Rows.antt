-- Rows of digests: a row as its elements, and the roots of parts that are twice as large.
use Rattle.std.proofs.Common.{◌≡◌, ℕ, zero, suc, ◌+◌, ◌-◌, ◌*◌, ◌/◌, ◌<◌, ◌≤◌, List, [], ◌∷◌, ◌++◌, length, get_or, take, drop, sym, refl, ap, ◌∙◌, ap₂, suc-mul, zero-mul, arith, lit<, length-drop, length-take-le, drop-cons, take-add, pow_pos}
use borrow.Rule.Slice.PartMut.{put_mid}
use Rattle.std.proofs.lemmas.List.{take_at, take_all, take-take, drop_at, drop_all, drop-drop, drop-take, append-nil}
use Rattle.sha256.specs.Standard.{digest}
use Rattle.merkle_theory.specs.Tree.{split, root}
use Rattle.merkle_theory.specs.Laws.{PowerOfTwo}
use Rattle.merkle_theory.proofs.Laws.{split_power, split_below, length-left, length-right, root-of_none, root-of_one, root-of_more, root-of_append}
use Rattle.merkle.specs.declared.digest.Digest.{Digest}
use Rattle.merkle.specs.Digests.{leaves, node_of, empty_root}
use Rattle.merkle.specs.Rows.{nodes_over, pair_at, part_roots}

-- n elements from place i on
abbrev pub spell : {X : Type 0} → ℕ → ℕ → List X → X → List X
spell zero i xs d = []
spell (suc n) i xs d = get_or xs i d ∷ spell n (suc i) xs d

spell_from : {X : Type 0} (n i : ℕ) (xs : List X) (d : X) → i + n ≡ length xs → drop i xs ≡ spell n i xs d
spell_from zero i xs d e = drop_all i xs (omega arith)
spell_from (suc n) i xs d e = drop-cons xs i d (omega arith) ∙ ap (◌∷◌ (get_or xs i d)) (spell_from n (suc i) xs d (omega arith))

pub spelled : {X : Type 0} (n : ℕ) (xs : List X) (d : X) → length xs ≡ n → xs ≡ spell n 0 xs d
spelled n xs d e = spell_from n 0 xs d (omega arith)

-- the digests that are made of four pairs of neighbours are the nodes over them
pub nodes_of_eight : (ds made : List Digest) (pairs : List (List ℕ)) → length ds ≡ 8 → length made ≡ 4 →
    ((l : ℕ) → l < 4 → get_or made l (record { bytes = [] }) ≡ record { bytes = digest (1 ∷ get_or pairs l []) }) →
    pairs ≡ pair_at ds 0 ∷ (pair_at ds 2 ∷ (pair_at ds 4 ∷ (pair_at ds 6 ∷ []))) → made ≡ nodes_over ds
nodes_of_eight ds made pairs long four is e =
    spelled 4 made (record { bytes = [] }) four
    ∙ ((λ i. node 0 (lit< tt) i ∷ (node 1 (lit< tt) i ∷ (node 2 (lit< tt) i ∷ (node 3 (lit< tt) i ∷ []))))
    ∙ sym (ap nodes_over (spelled 8 ds (record { bytes = [] }) long)))
  where
    node : (l : ℕ) → l < 4 → get_or made l (record { bytes = [] }) ≡ record { bytes = digest (1 ∷ get_or (pair_at ds 0 ∷ (pair_at ds 2 ∷ (pair_at ds 4 ∷ (pair_at ds 6 ∷ [])))) l []) }
    node l h = is l h ∙ ap (λ ps. record { bytes = digest (1 ∷ get_or ps l []) }) e

-- A second half is written behind the first.
pub second_written : (xs zs ys : List ℕ) → length xs ≡ 32 → length zs ≡ 32 → put_mid 32 32 (xs ++ zs) ys ≡ xs ++ ys
second_written xs zs ys e f =
    let none : drop 32 (drop 32 (xs ++ zs)) ≡ [] = ap (drop 32) (drop_at xs zs 32 e) ∙ drop_all 32 zs (omega arith) in
    ap₂ ◌++◌ (take_at xs zs 32 e) (ap (◌++◌ ys) none ∙ append-nil ys)

-- Rows of no leaf and of one; the roots of parts of one leaf.

pub root-of_no_leaf : (row : List Digest) → length row ≡ 0 → empty_root ≡ root leaves row
root-of_no_leaf [] e = sym (root-of_none leaves)
root-of_no_leaf (x ∷ xs) e = absurd (omega arith)

pub root-of_leaf : (row : List Digest) (d : Digest) → length row ≡ 1 → get_or row 0 d ≡ root leaves row
root-of_leaf [] d e = absurd (omega arith)
root-of_leaf (x ∷ []) d e = sym (root-of_one leaves x)
root-of_leaf (x ∷ (y ∷ ys)) d e = absurd (omega arith)

leaf_parts : (row : List Digest) → part_roots (length row) 1 row ≡ row
leaf_parts [] = refl
leaf_parts (x ∷ xs) = ap₂ ◌∷◌ (root-of_one leaves x) (leaf_parts xs)

pub four_leaves : (size : ℕ) (row : List Digest) (d : Digest) → size ≡ 1 → length row ≡ 4 * size → spell 4 0 row d ≡ part_roots 4 size row
four_leaves size row d one long =
    let four : length row ≡ 4 = omega arith in
    sym (spelled 4 row d four) ∙ (sym (leaf_parts row) ∙ ap₂ (λ n s. part_roots n s row) four (sym one))

-- The roots of m parts, and of n more.

abbrev more : ℕ → ℕ → ℕ
more zero n = n
more (suc m) n = suc (more m n)

parts_append : (m n size : ℕ) (row : List Digest) → m * size ≤ length row →
    part_roots m size (take (m * size) row) ++ part_roots n size (drop (m * size) row) ≡ part_roots (more m n) size row
parts_append zero n size row h = ap (λ k. part_roots n size (drop k row)) (zero-mul size)
parts_append (suc m) n size row h =
    let next : suc m * size ≡ size + m * size = omega (arith, suc-mul m size) in
    let here : take size (take (suc m * size) row) ≡ take size row = take-take size (suc m * size) row (omega arith) in
    let before : drop size (take (suc m * size) row) ≡ take (m * size) (drop size row) = ap (λ k. drop size (take k row)) next ∙ drop-take size (m * size) row in
    let after : drop (suc m * size) row ≡ drop (m * size) (drop size row) = ap (λ k. drop k row) next ∙ sym (drop-drop (m * size) size row) in
    ap₂ ◌∷◌ (ap (root leaves) here)
    (ap₂ (λ xs ys. part_roots m size xs ++ part_roots n size ys) before after
    ∙ parts_append m n size (drop size row) (omega (arith, length-drop size row)))

-- two whole parts side by side are one
two_parts : (size : ℕ) (row : List Digest) → PowerOfTwo size → size + size ≤ length row →
    node_of (root leaves (take size row)) (root leaves (take size (drop size row))) ≡ root leaves (take (size + size) row)
two_parts size row (a, e) h =
    let pos = pow_pos a in
    let left : length (take size row) ≡ size = length-take-le size row (omega arith) in
    let right : length (take size (drop size row)) ≡ size = length-take-le size (drop size row) (omega (arith, length-drop size row)) in
    sym (root-of_append leaves (take size row) (take size (drop size row)) (a, left ∙ e) (omega arith) (omega arith))
    ∙ ap (root leaves) (sym (take-add size size row))

abbrev twice : ℕ → ℕ
twice zero = zero
twice (suc n) = suc (suc (twice n))

nodes_over_parts : (n size : ℕ) (row : List Digest) → PowerOfTwo size → n * (size + size) ≤ length row → nodes_over (part_roots (twice n) size row) ≡ part_roots n (size + size) row
nodes_over_parts zero size row power h = refl
nodes_over_parts (suc n) size row power h =
    let next : suc n * (size + size) ≡ size + size + n * (size + size) = omega (arith, suc-mul n (size + size)) in
    ap₂ ◌∷◌ (two_parts size row power (omega arith))
    (ap (λ rest. nodes_over (part_roots (twice n) size rest)) (drop-drop size size row)
    ∙ nodes_over_parts n size (drop (size + size) row) power (omega (arith, length-drop (size + size) row)))

-- eight parts of half the size make four
pub four_of_eight : (half size : ℕ) (row front back : List Digest) → half + half ≡ size → PowerOfTwo half → length row ≡ 4 * size →
    front ≡ take (2 * size) row → back ≡ drop (2 * size) row → nodes_over (part_roots 4 half front ++ part_roots 4 half back) ≡ part_roots 4 size row
four_of_eight half size row front back e power long is_front is_back =
    let here : 2 * size ≡ 4 * half = omega arith in
    ap₂ (λ xs ys. nodes_over (part_roots 4 half xs ++ part_roots 4 half ys)) (is_front ∙ ap (λ k. take k row) here) (is_back ∙ ap (λ k. drop k row) here)
    ∙ (ap nodes_over (parts_append 4 4 half row (omega arith))
    ∙ (nodes_over_parts 4 half row power (omega arith) ∙ ap (λ s. part_roots 4 s row) e))

-- four whole parts are the row
pub root-of_four : (size : ℕ) (row rs : List Digest) (d : Digest) → PowerOfTwo size → length row ≡ 4 * size → rs ≡ part_roots 4 size row →
    node_of (node_of (get_or rs 0 d) (get_or rs 1 d)) (node_of (get_or rs 2 d) (get_or rs 3 d)) ≡ root leaves row
root-of_four size row rs d (a, e) long parts =
    let all : nodes_over (nodes_over (part_roots 4 size row)) ≡ part_roots 1 (size + size + (size + size)) row =
    ap nodes_over (nodes_over_parts 2 size row (a, e) (omega arith)) ∙ nodes_over_parts 1 (size + size) row (suc a, omega arith) (omega arith) in
    ap (λ xs. node_of (node_of (get_or xs 0 d) (get_or xs 1 d)) (node_of (get_or xs 2 d) (get_or xs 3 d))) parts
    ∙ (ap (λ xs. get_or xs 0 d) all
    ∙ ap (root leaves) (take_all (size + size + (size + size)) row (omega arith)))

pub halved : (size : ℕ) → PowerOfTwo size → (size ≡ 1 → ⊥) → PowerOfTwo (size / 2) × (size / 2 + size / 2 ≡ size) × (size / 2 < size)
halved size (zero, e) h = absurd (h e)
halved size (suc a, e) h = let pos = pow_pos a in ((a, omega arith), omega arith, omega arith)

-- two sides as long, and longer than one, are two whole parts each
pub sides_alike : (row left right : List Digest) → PowerOfTwo (length left) → length left + length right ≡ length row → length left ≡ length right → 1 < length left →
    (length row ≡ 4 * (length left / 2)) × PowerOfTwo (length left / 2)
sides_alike row left right whole all same long =
    let (power, halves, less) = halved (length left) whole (λ one. omega arith) in
    (omega arith, power)

pub sides_are : (row left right : List Digest) → 2 ≤ length row → left ≡ take (split (length row)) row → right ≡ drop (split (length row)) row →
    PowerOfTwo (length left) × (length left + length right ≡ length row) × (0 < length right) × (root leaves row ≡ node_of (root leaves left) (root leaves right))
sides_are row left right many is_left is_right =
    let (a, e) = split_power (length row) many in
    let l : length left ≡ split (length row) = ap length is_left ∙ length-left row many in
    let r : length right ≡ length row - split (length row) = ap length is_right ∙ length-right row in
    let below = split_below (length row) many in
    ((a, l ∙ e), omega arith, omega arith, root-of_more leaves row many ∙ ap₂ (λ x y. node_of (root leaves x) (root leaves y)) (sym is_left) (sym is_right))
