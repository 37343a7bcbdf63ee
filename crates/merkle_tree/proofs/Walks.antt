-- The way down to a place: what has been noted beside it, and what is still to come, make the whole proof.
use Rattle.std.proofs.Common.{◌≡◌, ℕ, ◌+◌, ◌-◌, ◌<◌, ◌≤◌, Bool, true, false, eqb, ltb, List, [], ◌∷◌, ◌++◌, length, take, sym, refl, ap, ◌∙◌, subst, ap₂, inl, inr, arith, le-ltb, lt-ltb, eq-eqb, ne_eqb}
use Rattle.std.proofs.lemmas.List.{append-nil}
use Rattle.std.proofs.lemmas.Bool.{cases_lt, cond-true, cond-false}
use Rattle.merkle_theory.specs.Tree.{split}
use Rattle.merkle_theory.specs.Laws.{consistency_from}
use Rattle.merkle_theory.proofs.Laws.{split_pos, split_below, path-of_one, path_in_left, path_in_right, consistency-is_from, consistency-of_whole, consistency-of_part, consistency_in_left, consistency_in_right}
use Rattle.merkle.specs.declared.digest.Digest.{Digest}
use Rattle.merkle.specs.Digests.{leaves}
use Rattle.merkle_tree.specs.declared.step.Step.{Step}
use Rattle.merkle_tree.specs.Layout.{root_of, part, Subtree}
use Rattle.merkle_tree.specs.Walk.{step_to, Walks}
use Rattle.merkle_tree.specs.Answer.{path_of, consistency_of}
use Rattle.merkle_tree.proofs.Parts.{length_part, left_part, right_part}
use Rattle.merkle_tree.proofs.Subtrees.{first_leaves, left_side, right_side}

-- on the way down to a place: in a subtree that has it
pub record OnWay (ds : List Digest) (from size place : ℕ) : Type 0 where
  pub subtree : Subtree ds from size
  pub after : from ≤ place
  pub before : place < from + size

-- A step down, by the side that it goes to.
data Goes (ds : List Digest) (from size place : ℕ) : Step → Type 0 where
  left : place < from + split size → Goes ds from size place (record { side = record { from = from; size = split size }; beside = root_of (part (from + split size) (size - split size) ds) })
  right : from + split size ≤ place → Goes ds from size place (record { side = record { from = from + split size; size = size - split size }; beside = root_of (part from (split size) ds) })

goes : {st : Step} (ds : List Digest) (from size place : ℕ) → st ≡ step_to ds from size place → Goes ds from size place st
goes ds from size place e = elim (cases_lt place (from + split size)) [
  | inl h ↦ subst (Goes ds from size place) (sym (e ∙ cond-true (ltb place (from + split size)) _ _ (lt-ltb place (from + split size) h))) (left h)
  | inr h ↦ subst (Goes ds from size place) (sym (e ∙ cond-false (ltb place (from + split size)) _ _ (le-ltb place (from + split size) h))) (right h)
]

-- the side that it goes to has the place, and is smaller
way_goes : {ds : List Digest} {from size place : ℕ} {st : Step} → OnWay ds from size place → 2 ≤ size → Goes ds from size place st → OnWay ds st.side.from st.side.size place × (st.side.size < size)
way_goes {ds} {from} {size} w two (left h) =
    let below = split_below size two in
    (record { subtree = left_side w.subtree (split size) (split_pos size two) (omega arith); after = w.after; before = h }, below)
way_goes {ds} {from} {size} w two (right h) =
    (record { subtree = right_side w.subtree two (split size) refl; after = h; before = omega (arith, w.before, split_below size two) }, omega (arith, split_pos size two))

pub way_down : {ds : List Digest} {from size place : ℕ} (st : Step) → OnWay ds from size place → 2 ≤ size → st ≡ step_to ds from size place → OnWay ds st.side.from st.side.size place × (st.side.size < size)
way_down {ds} {from} {size} {place} st w two e = way_goes w two (goes ds from size place e)

-- The proof of a part is the digest beside the step and the proof of the side.

path-goes : {ds : List Digest} {from size place : ℕ} {st : Step} → OnWay ds from size place → 2 ≤ size → Goes ds from size place st →
    path_of (place - from) (part from size ds) ≡ st.beside ∷ path_of (place - st.side.from) (part st.side.from st.side.size ds)
path-goes {ds} {from} {size} {place} w two (left h) =
    let s = w.subtree in
    let long = length_part from size ds s.within in
    path_in_left leaves (place - from) (part from size ds) (omega arith) (omega (arith, w.after, ap split long))
    ∙ ap₂ (λ r l. root_of r ∷ path_of (place - from) l) (right_part ds from size two s.within) (left_part ds from size two s.within)
path-goes {ds} {from} {size} {place} w two (right h) =
    let s = w.subtree in
    let long = length_part from size ds s.within in
    let on : (place - from) - split (length (part from size ds)) ≡ place - (from + split size) = omega (arith, ap split long) in
    path_in_right leaves (place - from) (part from size ds) (omega arith) (omega (arith, ap split long))
    ∙ (ap₂ (λ l r. root_of l ∷ path_of ((place - from) - split (length (part from size ds))) r) (left_part ds from size two s.within) (right_part ds from size two s.within)
    ∙ ap (λ m. root_of (part from (split size) ds) ∷ path_of m (part (from + split size) (size - split size) ds)) on)

pub path_down : {ds : List Digest} {from size place : ℕ} (st : Step) → OnWay ds from size place → 2 ≤ size → st ≡ step_to ds from size place →
    path_of (place - from) (part from size ds) ≡ st.beside ∷ path_of (place - st.side.from) (part st.side.from st.side.size ds)
path_down {ds} {from} {size} {place} st w two e = path-goes w two (goes ds from size place e)

pub path-ends : {ds : List Digest} {from size : ℕ} (place : ℕ) → Subtree ds from size → size ≡ 1 → path_of place (part from size ds) ≡ []
path-ends {ds} {from} {size} place s one = path-of_one leaves place (part from size ds) (omega (arith, length_part from size ds s.within))

-- The same of consistency: the first count leaves end in the part, and its start tells whether the way went left only.
abbrev pub growth_of : List Digest → ℕ → ℕ → ℕ → List Digest
growth_of ds count from size = consistency_from leaves (count - from) (eqb from 0) (part from size ds)

growth_goes : {ds : List Digest} {from size count : ℕ} {st : Step} → OnWay ds from size (count - 1) → 0 < count → count < from + size → 2 ≤ size → Goes ds from size (count - 1) st →
    growth_of ds count from size ≡ st.beside ∷ growth_of ds count st.side.from st.side.size
growth_goes {ds} {from} {size} {count} w pos short two (left h) =
    let s = w.subtree in
    let long = length_part from size ds s.within in
    consistency_in_left leaves (count - from) (eqb from 0) (part from size ds) (omega (arith, w.after)) (omega arith) (omega (arith, w.after, ap split long))
    ∙ ap₂ (λ r l. root_of r ∷ consistency_from leaves (count - from) (eqb from 0) l) (right_part ds from size two s.within) (left_part ds from size two s.within)
growth_goes {ds} {from} {size} {count} w pos short two (right h) =
    let s = w.subtree in
    let long = length_part from size ds s.within in
    let on : (count - from) - split (length (part from size ds)) ≡ count - (from + split size) = omega (arith, ap split long) in
    let later : false ≡ eqb (from + split size) 0 = sym (ne_eqb (from + split size) 0 (omega (arith, split_pos size two))) in
    consistency_in_right leaves (count - from) (eqb from 0) (part from size ds) (omega arith) (omega (arith, ap split long))
    ∙ (ap₂ (λ l r. root_of l ∷ consistency_from leaves ((count - from) - split (length (part from size ds))) false r) (left_part ds from size two s.within) (right_part ds from size two s.within)
    ∙ ap₂ (λ m whole. root_of (part from (split size) ds) ∷ consistency_from leaves m whole (part (from + split size) (size - split size) ds)) on later)

pub growth_down : {ds : List Digest} {from size count : ℕ} (st : Step) → OnWay ds from size (count - 1) → 0 < count → count < from + size → 2 ≤ size → st ≡ step_to ds from size (count - 1) →
    growth_of ds count from size ≡ st.beside ∷ growth_of ds count st.side.from st.side.size
growth_down {ds} {from} {size} {count} st w pos short two e = growth_goes w pos short two (goes ds from size (count - 1) e)

ends_with : {ds : List Digest} {from size count : ℕ} (whole : Bool) → Subtree ds from size → from + size ≡ count →
    consistency_from leaves (count - from) whole (part from size ds) ≡ consistency_from leaves (length (part from size ds)) whole (part from size ds)
ends_with {ds} {from} {size} {count} whole s e =
    let all : count - from ≡ length (part from size ds) = omega (arith, length_part from size ds s.within) in
    ap (λ m. consistency_from leaves m whole (part from size ds)) all

pub growth_ends_whole : {ds : List Digest} {from size count : ℕ} → Subtree ds from size → from + size ≡ count → from ≤ 0 → growth_of ds count from size ≡ []
growth_ends_whole {ds} {from} {size} {count} s e none =
    ends_with (eqb from 0) s e
    ∙ (ap (λ whole. consistency_from leaves (length (part from size ds)) whole (part from size ds)) (eq-eqb from 0 (omega arith))
    ∙ consistency-of_whole leaves (part from size ds))

pub growth_ends_part : {ds : List Digest} {from size count : ℕ} {d : Digest} → Subtree ds from size → from + size ≡ count → 0 < from → d ≡ root_of (part from size ds) → growth_of ds count from size ≡ d ∷ []
growth_ends_part {ds} {from} {size} {count} s e some is =
    ends_with (eqb from 0) s e
    ∙ (ap (λ whole. consistency_from leaves (length (part from size ds)) whole (part from size ds)) (ne_eqb from 0 (omega arith))
    ∙ (consistency-of_part leaves (part from size ds) ∙ ap (λ r. r ∷ []) (sym is)))

-- At the root all is to come.

pub way_begins : {ds : List Digest} {count place : ℕ} → place < count → count ≤ length ds → OnWay ds 0 count place
way_begins {ds} {count} h l = record { subtree = first_leaves ds count (omega arith) l; after = omega arith; before = omega arith }

-- one step more
pub walks_more : (P : ℕ → ℕ → Type 0) (ds : List Digest) (place f s : ℕ) (st : Step) → st ≡ step_to ds f s place → P f s →
    (out : List Digest) (from size : ℕ) → Walks P ds place out from size f s → Walks P ds place (out ++ (st.beside ∷ [])) from size st.side.from st.side.size
walks_more P ds place f s st e p [] from size (ef, es) =
    let same : step_to ds f s place ≡ step_to ds from size place = ap₂ (λ a b. step_to ds a b place) ef es in
    let is : st ≡ step_to ds from size place = e ∙ same in
    (subst (λ a. P a size) ef (subst (P f) es p), ap (λ (t : Step). t.beside) is, (ap (λ (t : Step). t.side.from) is, ap (λ (t : Step). t.side.size) is))
walks_more P ds place f s st e p (d ∷ out) from size (q, is, rest) =
    let next = step_to ds from size place in
    (q, is, walks_more P ds place f s st e p out next.side.from next.side.size rest)

-- What is to come at the root is what was noted, and what is to come where the way ends.
module _ (P : ℕ → ℕ → Type 0) (ds : List Digest) (place : ℕ) (to_come : ℕ → ℕ → List Digest)
    (two : (from size : ℕ) → OnWay ds from size place → P from size → 2 ≤ size)
    (more : (from size : ℕ) → OnWay ds from size place → P from size → let st = step_to ds from size place in to_come from size ≡ st.beside ∷ to_come st.side.from st.side.size) where
  walked : (out : List Digest) (from size f s : ℕ) → OnWay ds from size place → Walks P ds place out from size f s → OnWay ds f s place × (to_come from size ≡ out ++ to_come f s)
  walked [] from size f s w (ef, es) = (subst (λ a. OnWay ds a s place) (sym ef) (subst (λ b. OnWay ds from b place) (sym es) w), sym (ap₂ to_come ef es))
  walked (d ∷ out) from size f s w (p, is, rest) =
      let st = step_to ds from size place in
      let (end, e) = walked out st.side.from st.side.size f s (way_down st w (two from size w p) refl).0 rest in
      (end, more from size w p ∙ ap₂ ◌∷◌ (sym is) e)

pub path_walked : (P : ℕ → ℕ → Type 0) (ds : List Digest) (place count : ℕ) (out : List Digest) (f s : ℕ) →
    ((from size : ℕ) → from ≤ place → place < from + size → P from size → 2 ≤ size) → place < count → count ≤ length ds →
    Walks P ds place out 0 count f s → s ≡ 1 → out ≡ path_of place (take count ds)
path_walked P ds place count out f s many h l walks one =
    let two : (from size : ℕ) → OnWay ds from size place → P from size → 2 ≤ size = λ from size w p. many from size w.after w.before p in
    let (w, e) = walked P ds place (λ from size. path_of (place - from) (part from size ds)) two (λ from size w p. path_down _ w (two from size w p) refl) out 0 count f s (way_begins h l) walks in
    let all : place - 0 ≡ place = omega arith in
    sym (ap (λ m. path_of m (take count ds)) (sym all) ∙ (e ∙ (ap (λ r. out ++ r) (path-ends (place - f) w.subtree one) ∙ append-nil out)))

pub growth_walked : (P : ℕ → ℕ → Type 0) (ds : List Digest) (old count : ℕ) (out : List Digest) (f s : ℕ) →
    ((from size : ℕ) → P from size → from + size ≡ old → ⊥) → 0 < old → old ≤ count → count ≤ length ds →
    Walks P ds (old - 1) out 0 count f s → (consistency_of old (take count ds) ≡ out ++ growth_of ds old f s)
growth_walked P ds old count out f s inner some h l walks =
    let two : (from size : ℕ) → OnWay ds from size (old - 1) → P from size → 2 ≤ size = λ from size w p. let other = inner from size p in omega (arith, w.after, w.before) in
    let more : (from size : ℕ) → OnWay ds from size (old - 1) → P from size → let st = step_to ds from size (old - 1) in growth_of ds old from size ≡ st.beside ∷ growth_of ds old st.side.from st.side.size =
    λ from size w p. let other = inner from size p in growth_down _ w some (omega (arith, w.before)) (two from size w p) refl in
    let (w, e) = walked P ds (old - 1) (growth_of ds old) two more out 0 count f s (way_begins (omega arith) l) walks in
    let all : old ≡ old - 0 = omega arith in
    consistency-is_from leaves old (take count ds) ∙ (ap (λ m. consistency_from leaves m true (take count ds)) all ∙ e)
