-- A revocation list's serials: they rise, and are just those that were revoked no more than a lifetime ago. Assumes nothing.
use Rattle.std.proofs.Common.{◌≡◌, ℕ, ◌+◌, ◌<◌, ◌≤◌, true, cond, ◌&&◌, eqb, ltb, leb, ◌⊎◌, List, [], ◌∷◌, sym, refl, subst, inl, inr, arith}
use mathlib.Core.List.Memᴰ
use Rattle.std.proofs.lemmas.Bool.{cond_both, cond-true, ltb-true, ltb-false, eqb-true, eqb-false, leb-true, eq-eqb, le-leb, and_parts, and_from}
use Rattle.model.specs.Lists.{◌∈◌, Rising}
use Rattle.model.specs.Objects.{Revocation}
use Rattle.model.specs.Rules.{insert, serials_of}

-- what stands in a list after a serial was put into it

inserted_is_there : (n : ℕ) (xs : List ℕ) → n ∈ insert n xs
unfolding insert
inserted_is_there n [] = Memᴰ.head refl
inserted_is_there n (x ∷ xs) = cond_both (ltb n x) _ _ (λ ys. n ∈ ys) (λ l. Memᴰ.head refl)
    (λ l. cond_both (eqb n x) _ _ (λ ys. n ∈ ys) (λ e. Memᴰ.head (eqb-true n x e)) (λ e. Memᴰ.tail (inserted_is_there n xs)))

others_stay : (n : ℕ) (xs : List ℕ) (i : ℕ) → i ∈ xs → i ∈ insert n xs
unfolding insert
others_stay n [] i m = Memᴰ.tail m
others_stay n (x ∷ xs) i m = cond_both (ltb n x) _ _ (λ ys. i ∈ ys) (λ l. Memᴰ.tail m)
    (λ l. cond_both (eqb n x) _ _ (λ ys. i ∈ ys) (λ e. m) (λ e. elim (Memᴰ.cases_cons m) [ inl q ↦ Memᴰ.head q | inr t ↦ Memᴰ.tail (others_stay n xs i t) ]))

pub inserted_or_there : (n : ℕ) (xs : List ℕ) (i : ℕ) → i ∈ insert n xs → (i ≡ n) ⊎ (i ∈ xs)
unfolding insert
inserted_or_there n [] i = λ m. Memᴰ.cases_cons m
inserted_or_there n (x ∷ xs) i = cond_both (ltb n x) _ _ (λ ys. i ∈ ys → (i ≡ n) ⊎ (i ∈ x ∷ xs)) (λ l m. Memᴰ.cases_cons m)
    (λ l. cond_both (eqb n x) _ _ (λ ys. i ∈ ys → (i ≡ n) ⊎ (i ∈ x ∷ xs)) (λ e m. inr m) (λ e m. further (Memᴰ.cases_cons m) (inserted_or_there n xs i)))
  where
    further : (i ≡ x) ⊎ (i ∈ insert n xs) → (i ∈ insert n xs → (i ≡ n) ⊎ (i ∈ xs)) → (i ≡ n) ⊎ (i ∈ x ∷ xs)
    further (inl q) rest = inr (Memᴰ.head q)
    further (inr t) rest = elim (rest t) [ inl q ↦ inl q | inr m ↦ inr (Memᴰ.tail m) ]

-- and that it rises

below_all : (n x : ℕ) (xs : List ℕ) → n < x → ((y : ℕ) → y ∈ xs → x < y) → (y : ℕ) → y ∈ x ∷ xs → n < y
below_all n x xs l above y m = elim (Memᴰ.cases_cons m) [ inl q ↦ omega arith | inr t ↦ let h : x < y = above y t in omega arith ]

insert_rises : (n : ℕ) (xs : List ℕ) → Rising xs → Rising (insert n xs)
unfolding insert
insert_rises n [] r = ((λ y m. elim m [ ]), tt)
insert_rises n (x ∷ xs) (above, rest) = cond_both (ltb n x) _ _ Rising (λ l. (below_all n x xs (ltb-true n x l) above, (above, rest)))
    (λ l. cond_both (eqb n x) _ _ Rising (λ e. (above, rest)) (λ e. (above_inserted (ltb-false n x l) (eqb-false n x e), insert_rises n xs rest)))
  where
    above_inserted : x ≤ n → ¬ (n ≡ x) → (y : ℕ) → y ∈ insert n xs → x < y
    above_inserted l ne y m = elim (inserted_or_there n xs y m) [ inl q ↦ omega (arith, λ (z : n ≡ x). ne z) | inr t ↦ above y t ]

-- the serials of a list

pub serials_rise : (lifetime a t : ℕ) (gs : List Revocation) → Rising (serials_of lifetime a t gs)
unfolding serials_of
serials_rise lifetime a t [] = tt
serials_rise lifetime a t (g ∷ gs) = cond_both (eqb g.authority a && leb t (g.at + lifetime)) _ _ Rising
    (λ c. insert_rises g.serial _ (serials_rise lifetime a t gs)) (λ c. serials_rise lifetime a t gs)

-- a revocation that a list of this authority and tick tells
pub record Tells (lifetime a t i : ℕ) (gs : List Revocation) : Type 0 where
  pub revocation : Revocation
  pub there : revocation ∈ gs
  pub authority : revocation.authority ≡ a
  pub serial : revocation.serial ≡ i
  pub recent : t ≤ revocation.at + lifetime

tells_more : {lifetime a t i : ℕ} {g : Revocation} {gs : List Revocation} → Tells lifetime a t i gs → Tells lifetime a t i (g ∷ gs)
tells_more x = record { revocation = x.revocation; there = Memᴰ.tail x.there; authority = x.authority; serial = x.serial; recent = x.recent }

pub serial_was_revoked : (lifetime a t : ℕ) (gs : List Revocation) (i : ℕ) → i ∈ serials_of lifetime a t gs → Tells lifetime a t i gs
unfolding serials_of
serial_was_revoked lifetime a t [] i = λ m. elim m [ ]
serial_was_revoked lifetime a t (g ∷ gs) i = cond_both (eqb g.authority a && leb t (g.at + lifetime)) _ _ (λ ys. i ∈ ys → Tells lifetime a t i (g ∷ gs))
    (λ c m. first (and_parts _ _ c) (inserted_or_there g.serial _ i m) (serial_was_revoked lifetime a t gs i)) (λ c m. tells_more (serial_was_revoked lifetime a t gs i m))
  where
    first : (eqb g.authority a ≡ true) × (leb t (g.at + lifetime) ≡ true) → (i ≡ g.serial) ⊎ (i ∈ serials_of lifetime a t gs) →
        (i ∈ serials_of lifetime a t gs → Tells lifetime a t i gs) → Tells lifetime a t i (g ∷ gs)
    first (p, q) (inl e) rest = record { revocation = g; there = Memᴰ.head refl; authority = eqb-true _ _ p; serial = sym e; recent = leb-true _ _ q }
    first (p, q) (inr m) rest = tells_more (rest m)

pub revoked_has_serial : (lifetime a t : ℕ) (gs : List Revocation) (g : Revocation) → g ∈ gs → g.authority ≡ a → t ≤ g.at + lifetime → g.serial ∈ serials_of lifetime a t gs
unfolding serials_of
revoked_has_serial lifetime a t [] g m p q = elim m [ ]
revoked_has_serial lifetime a t (f ∷ fs) g m p q = elim (Memᴰ.cases_cons m) [ inl e ↦ it e | inr n ↦ another (revoked_has_serial lifetime a t fs g n p q) ]
  where
    others : List ℕ
    others = serials_of lifetime a t fs

    it : g ≡ f → g.serial ∈ cond (eqb f.authority a && leb t (f.at + lifetime)) (insert f.serial others) others
    it e = subst (λ (x : Revocation). g.serial ∈ cond (eqb x.authority a && leb t (x.at + lifetime)) (insert x.serial others) others) e
        (subst (λ (ys : List ℕ). g.serial ∈ ys) (sym (cond-true _ _ _ (and_from _ _ (eq-eqb _ _ p) (le-leb _ _ q)))) (inserted_is_there g.serial others))

    another : g.serial ∈ others → g.serial ∈ cond (eqb f.authority a && leb t (f.at + lifetime)) (insert f.serial others) others
    another n = cond_both _ _ _ (λ ys. g.serial ∈ ys) (λ c. others_stay f.serial others g.serial n) (λ c. n)
