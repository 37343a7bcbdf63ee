-- The steps of filling: one more whole subtree's root is written, a row begins and ends, and none is left.
use Rattle.std.proofs.Common.{◌≡◌, ℕ, suc, ◌+◌, ◌-◌, ◌*◌, ◌/◌, ◌%◌, ◌<◌, ◌≤◌, true, List, length, get_or, set, sym, refl, ap, ◌∙◌, subst, ap₂, inl, inr, arith, length-set, get_or-set_other, get_or-set_same}
use native.Mathlib.Nat.{mod-add-div'}
use Rattle.std.proofs.lemmas.Bool.{cases_lt, cases_eq}
use Rattle.merkle.specs.declared.digest.Digest.{Digest}
use Rattle.merkle.specs.Digests.{node_of}
use Rattle.merkle.specs.Rows.{nodes_over}
use Rattle.merkle_tree.specs.Layout.{root_of, blank, part, scaled, holds, Kept, kept_at}
use Rattle.merkle_tree.specs.Fill.{Levels, Row, kept_eight}
use Rattle.merkle_tree.proofs.Scaled.{scaled_add, scaled_suc, scaled_zero, scaled_mono, scaled_pos, scaled_times, middle, middle_once, finer}
use Rattle.merkle_tree.proofs.Kept.{holds_is, is_holds, kept_whole, root-of_pair}

-- a digest written at the middle of a subtree, whose root it is, disturbs no other
module _ (ds ms : List Digest) (k i : ℕ) (within : scaled k (i + i + 1) < length ms) where
  abbrev written : List Digest
  written = set ms (scaled k (i + i + 1)) (root_of (part (scaled (suc k) i) (scaled (suc k) 1) ds))

  written_here : holds ds written k i ≡ true
  written_here = is_holds ds written k i (get_or-set_same ms (scaled k (i + i + 1)) _ blank within)

  written_there : (l j : ℕ) → holds ds ms l j ≡ true → holds ds written l j ≡ true
  written_there l j h = elim (cases_eq (scaled l (j + j + 1)) (scaled k (i + i + 1))) [
    | inl e ↦ let (p, q) = middle_once l j k i e in rw (p, q) written_here
    | inr n ↦ is_holds ds written l j (get_or-set_other ms (scaled k (i + i + 1)) (scaled l (j + j + 1)) _ blank n ∙ holds_is ds ms l j h)
  ]

-- the node over the kept digests of both sides of a subtree is its root
pair_kept : (ds ms : List Digest) (k i : ℕ) → scaled (suc k) (suc i) ≤ length ds → ((l j : ℕ) → l < k → scaled (suc l) (suc j) ≤ length ds → holds ds ms l j ≡ true) →
    node_of (kept_at ds ms (scaled (suc k) i) (scaled k 1)) (kept_at ds ms (scaled (suc k) i + scaled k 1) (scaled k 1)) ≡ root_of (part (scaled (suc k) i) (scaled (suc k) 1) ds)
pair_kept ds ms k i h below =
    ap₂ node_of (side (i + i) (scaled (suc k) i) (scaled_add k i i) (omega (arith, scaled_suc k i)))
    (side (i + i + 1) (scaled (suc k) i + scaled k 1) (middle k i) (omega (arith, scaled_suc k i)))
    ∙ sym (root-of_pair ds ms k i h)
  where
    side : (j at : ℕ) → scaled k j ≡ at → at + scaled k 1 ≤ length ds → kept_at ds ms at (scaled k 1) ≡ root_of (part at (scaled k 1) ds)
    side j at e w =
        let P : ℕ → Type 0 = λ n. kept_at ds ms n (scaled k 1) ≡ root_of (part n (scaled k 1) ds) in
        subst P e (kept_whole ds ms k j (omega (arith, scaled_suc k j)) (λ l f. below l j (omega arith) (omega (arith, scaled_suc k j, ap (λ n. scaled n (suc j)) f))))

-- a place where a subtree of the row starts
abbrev Starts : {ds ms : List Digest} {count size : ℕ} → Levels ds ms count size → ℕ → Type 0
Starts f place = (i : ℕ) × (place ≡ scaled (suc f.level) i)

next_starts : {ds ms : List Digest} {count size place : ℕ} (f : Levels ds ms count size) → Starts f place → Starts f (place + (size + size))
next_starts f (i, e) = (suc i, omega (arith, f.size_is, scaled_suc f.level i))

node_of_kept : {ds ms : List Digest} {count size place : ℕ} (f : Levels ds ms count size) → Starts f place → place + (size + size) ≤ length ds →
    (l r : ℕ) → l ≡ place → r ≡ place + size → node_of (kept_at ds ms l size) (kept_at ds ms r size) ≡ root_of (part place (size + size) ds)
node_of_kept {ds} {ms} {count} {size} {place} f (i, e) h l r el er =
    let k = f.level in
    let P : ℕ → ℕ → Type 0 = λ a s. node_of (kept_at ds ms a s) (kept_at ds ms (a + s) s) ≡ root_of (part a (s + s) ds) in
    let end : scaled (suc k) (suc i) ≤ length ds = omega (arith, scaled_suc k i, f.size_is) in
    ap₂ (λ x y. node_of (kept_at ds ms x size) (kept_at ds ms y size)) el er
    ∙ subst (λ a. P a size) (sym e) (subst (P (scaled (suc k) i)) (sym f.size_is) (pair_kept ds ms k i end f.below))

-- the root of one more subtree of the row is written
row_more : {ds ms : List Digest} {count size place : ℕ} {d : Digest} (mid end : ℕ) → mid ≡ place + size → end ≡ place + (size + size) → end ≤ length ds → length ms ≡ length ds →
    d ≡ root_of (part place (size + size) ds) → Row ds ms count size place → Row ds (set ms mid d) count size end
row_more {ds} {ms} {count} {size} {place} {d} mid end em ee h e is r =
    let f = r.levels in
    let k = f.level in
    let i = r.index in
    let one : size ≡ scaled k 1 = f.size_is in
    let at : place ≡ scaled (suc k) i = r.place_is in
    let here : scaled k (i + i + 1) ≡ mid = omega (arith, middle k i) in
    let two : scaled (suc k) 1 ≡ size + size = omega arith in
    let within : scaled k (i + i + 1) < length ms = omega (arith, scaled_pos k) in
    let was : written ds ms k i within ≡ set ms mid d = ap₂ (set ms) here (ap₂ (λ a s. root_of (part a s ds)) (sym at) two ∙ sym is) in
    let kept = written_there ds ms k i within in
    subst (λ w. Row ds w count size end) was
    (record {
      levels = record {
        level = k;
        size_is = one;
        before = λ l j w. kept l j (f.before l j w);
        below = λ l j s w. kept l j (f.below l j s w);
      };
      index = suc i;
      place_is = omega (arith, scaled_suc k i);
      here = λ j s. elim (cases_lt j i) [
        | inl t ↦ kept k j (r.here j t)
        | inr t ↦ let q : i ≡ j = omega arith in subst (λ n. holds ds (written ds ms k i within) k n ≡ true) q (written_here ds ms k i within)
      ];
    })

-- it is worked out from the kept digests of both sides
pub row_joined : {ds ms : List Digest} {size place : ℕ} {d l r : Digest} → length ms ≡ length ds → place + (size + size) ≤ length ds →
    l ≡ kept_at ds ms place size → r ≡ kept_at ds ms (place + size) size → d ≡ node_of l r →
    (count : ℕ) → Row ds ms count size place → Row ds (set ms (place + size) d) count size (place + (size + size))
row_joined {ds} {ms} {size} {place} e h el er en count r =
    let is = en ∙ (ap₂ node_of el er ∙ node_of_kept r.levels (r.index, r.place_is) h place (place + size) refl refl) in
    row_more (place + size) (place + (size + size)) refl refl h e is r

-- four at once, all from what was kept before
pub row_four : {ds ms roots : List Digest} {size place : ℕ} → length ms ≡ length ds → place + 8 * size ≤ length ds → roots ≡ nodes_over (kept_eight ds ms place size) →
    (count : ℕ) → Row ds ms count size place →
    Row ds (set (set (set (set ms (place + size) (get_or roots 0 blank)) (place + 3 * size) (get_or roots 1 blank)) (place + 5 * size) (get_or roots 2 blank)) (place + 7 * size) (get_or roots 3 blank)) count size (place + 8 * size)
row_four {ds} {ms} {roots} {size} {place} e h is count r =
    let f = r.levels in
    let p0 : Starts f place = (r.index, r.place_is) in
    let p1 : Starts f (place + (size + size)) = next_starts f p0 in
    let p2 : Starts f (place + (size + size) + (size + size)) = next_starts f p1 in
    let p3 : Starts f (place + (size + size) + (size + size) + (size + size)) = next_starts f p2 in
    let root : (n : ℕ) → get_or roots n blank ≡ get_or (nodes_over (kept_eight ds ms place size)) n blank = λ n. ap (λ xs. get_or xs n blank) is in
    let m1 = set ms (place + size) (get_or roots 0 blank) in
    let m2 = set m1 (place + 3 * size) (get_or roots 1 blank) in
    let m3 = set m2 (place + 5 * size) (get_or roots 2 blank) in
    let e1 : length m1 ≡ length ds = length-set ms (place + size) (get_or roots 0 blank) ∙ e in
    let e2 : length m2 ≡ length ds = length-set m1 (place + 3 * size) (get_or roots 1 blank) ∙ e1 in
    let e3 : length m3 ≡ length ds = length-set m2 (place + 5 * size) (get_or roots 2 blank) ∙ e2 in
    row_more (place + 7 * size) (place + 8 * size) (omega arith) (omega arith) h e3
    (root 3 ∙ node_of_kept f p3 (omega arith) (place + 6 * size) (place + 7 * size) (omega arith) (omega arith))
    (row_more (place + 5 * size) (place + (size + size) + (size + size) + (size + size)) (omega arith) refl (omega arith) e2
    (root 2 ∙ node_of_kept f p2 (omega arith) (place + 4 * size) (place + 5 * size) (omega arith) (omega arith))
    (row_more (place + 3 * size) (place + (size + size) + (size + size)) (omega arith) refl (omega arith) e1
    (root 1 ∙ node_of_kept f p1 (omega arith) (place + 2 * size) (place + 3 * size) (omega arith) (omega arith))
    (row_more (place + size) (place + (size + size)) refl refl (omega arith) e
    (root 0 ∙ node_of_kept f p0 (omega arith) place (place + size) refl refl) r)))

-- a row begins at the last multiple of its subtrees' size among the leaves that were there
pub row_begins : {ds ms : List Digest} {count size : ℕ} (step : ℕ) → step ≡ size + size → (f : Levels ds ms count size) → Row ds ms count size (count - count % step)
row_begins {ds} {ms} {count} {size} step e f =
    let place = count - count % step in
    let k = f.level in
    let index = count / step in
    let one : size ≡ scaled k 1 = f.size_is in
    let two : scaled (suc k) 1 ≡ step = omega arith in
    let at : place ≡ scaled (suc k) index = omega (arith, scaled_times (suc k) index, ap (λ n. index * n) two, mod-add-div' count step) in
    record {
      levels = f;
      index = index;
      place_is = at;
      here = λ i s. f.before k i (omega (arith, scaled_mono (suc k) (suc i) index s));
    }

-- it ends where no further subtree fits
pub row_ends : {ds ms : List Digest} {count size place : ℕ} (step : ℕ) → step ≡ size + size → length ds < place + step → Row ds ms count size place → Levels ds ms count step
row_ends {ds} {ms} {count} {size} {place} step e h r =
    let f = r.levels in
    let k = f.level in
    let one : size ≡ scaled k 1 = f.size_is in
    let at : place ≡ scaled (suc k) r.index = r.place_is in
    record {
      level = suc k;
      size_is = omega arith;
      before = f.before;
      below = λ l j s w. elim (cases_lt l k) [
        | inl t ↦ f.below l j t w
        | inr t ↦
            let q : k ≡ l = omega arith in
            subst (λ n. holds ds ms n j ≡ true) q (elim (cases_lt j r.index) [
              | inl u ↦ r.here j u
              | inr u ↦ absurd (omega (arith, scaled_mono k (suc r.index) (suc j) (omega arith), scaled_suc k r.index, ap (λ n. scaled n (suc j)) q))
            ])
      ];
    }

-- where no subtree of a row is left to do, none of a later row is
none_left : {ds ms : List Digest} {count size : ℕ} (i : ℕ) (f : Levels ds ms count size) → scaled (suc f.level) i ≤ count → length ds < scaled (suc f.level) (suc i) → Kept ds ms
none_left {ds} {ms} {count} {size} i f h end l j w = elim (cases_lt l f.level) [
  | inl t ↦ f.below l j t (omega arith)
  | inr t ↦ elim (cases_lt count (scaled (suc l) (suc j))) [
    | inr s ↦ f.before l j s
    | inl s ↦
        let k = f.level in
        let (m, e) = finer (suc k) (suc l) (suc j) (omega arith) in
        absurd (elim (cases_lt i m) [
          | inl q ↦ omega (arith, scaled_mono (suc k) (suc i) m q)
          | inr q ↦ omega (arith, scaled_mono (suc k) m i q)
        ])
  ]
]

pub row_has_none : {ds ms : List Digest} {count size place : ℕ} → place ≤ count → length ds < place + (size + size) → Row ds ms count size place → Kept ds ms
row_has_none {ds} {ms} {count} {size} {place} h end r =
    let f = r.levels in
    let one : size ≡ scaled f.level 1 = f.size_is in
    none_left r.index f (omega (arith, r.place_is)) (omega (arith, r.place_is, scaled_suc f.level r.index))

pub too_few : {ds ms : List Digest} {count size : ℕ} → length ds < size + size → Levels ds ms count size → Kept ds ms
too_few end f = none_left 0 f (omega (arith, scaled_zero f.level)) (omega (arith, f.size_is))
