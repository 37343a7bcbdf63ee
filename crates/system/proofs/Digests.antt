-- One digest, one certificate; one root, one list of certificates: or two texts that were hashed collide. Assumes nothing.
use Rattle.std.proofs.Common.{◌≡◌, ℕ, true, false, ◌⊎◌, List, [], ◌∷◌, sym, refl, subst, inl, inr, true≢false}
use mathlib.Core.List.Memᴰ
use mathlib.Core.List.{List-discrete}
use native.Mathlib.Decide.{ℕ_discrete}
use Rattle.std.proofs.lemmas.Bool.{or_cases}
use Rattle.model.specs.Lists.{◌∈◌}
use Rattle.model.specs.Objects.{Certificate}
use Rattle.wire_theory.specs.Bytes.{Bytes}
use Rattle.parties.specs.Coding.{same_bytes, has, told, leaf_text, leaf_of, leaves_of}
use Rattle.system.specs.Setup.{Setup, Sound, Collides}
use Rattle.system.specs.Stands.{Texted}

-- bytes that are compared, and found

pub same_bytes_lem : (s t : Bytes) → same_bytes s t ≡ true → s ≡ t
unfolding same_bytes
same_bytes_lem s t e = decided (List-discrete ℕ_discrete s t) e
  where
    decided : (d : Dec (s ≡ t)) → told d ≡ true → s ≡ t
    decided (yes p) q = p
    decided (no n) q = absurd (true≢false (sym q))

pub bytes_same : (s t : Bytes) → s ≡ t → same_bytes s t ≡ true
unfolding same_bytes
bytes_same s t e = decided (List-discrete ℕ_discrete s t)
  where
    decided : (d : Dec (s ≡ t)) → told d ≡ true
    decided (yes p) = refl
    decided (no n) = absurd (n e)

pub found_is_there : (d : Bytes) (ds : List Bytes) → has d ds ≡ true → d ∈ ds
unfolding has
found_is_there d [] e = absurd (true≢false (sym e))
found_is_there d (x ∷ ds) e = elim (or_cases (same_bytes d x) (has d ds) e) [ inl p ↦ Memᴰ.head (same_bytes_lem d x p) | inr q ↦ Memᴰ.tail (found_is_there d ds q) ]

-- a certificate of which a leaf is
pub record LeafIn (S : Setup) (d : Bytes) (cs : List Certificate) : Type 0 where
  pub certificate : Certificate
  pub there : certificate ∈ cs
  pub leaf : leaf_of S.coding certificate ≡ d

pub leaf_in : (S : Setup) (d : Bytes) (cs : List Certificate) → d ∈ leaves_of S.coding cs → LeafIn S d cs
leaf_in S d [] m = elim m [ ]
leaf_in S d (c ∷ cs) m = elim (Memᴰ.cases_cons m) [
  | inl q ↦ record { certificate = c; there = Memᴰ.head refl; leaf = sym q }
  | inr n ↦ (let r = leaf_in S d cs n in record { certificate = r.certificate; there = Memᴰ.tail r.there; leaf = r.leaf })
]

tail_of : (x : ℕ) (s t : Bytes) → ◌≡◌ {A = Bytes} (x ∷ s) (x ∷ t) → s ≡ t
tail_of x s t e = cc

cons_parts : (a b : Bytes) (as' bs : List Bytes) → ◌≡◌ {A = List Bytes} (a ∷ as') (b ∷ bs) → (a ≡ b) × (as' ≡ bs)
cons_parts a b as' bs e = (cc, cc)

-- one leaf, one certificate
module _ (S : Setup) (sound : Sound S) {ts : List Bytes} where
  pub one_certificate : (c d : Certificate) → Texted S ts c → Texted S ts d → leaf_of S.coding c ≡ leaf_of S.coding d → (c ≡ d) ⊎ Collides S ts
  one_certificate c d p q e = decided (List-discrete ℕ_discrete (leaf_text S.coding c) (leaf_text S.coding d))
    where
      decided : Dec (leaf_text S.coding c ≡ leaf_text S.coding d) → (c ≡ d) ⊎ Collides S ts
      decided (yes z) = inl (sound.certificates_apart c d p.readable q.readable (tail_of 0 _ _ z))
      decided (no n) = inr (record { one = leaf_text S.coding c; other = leaf_text S.coding d; one_in = p.text; other_in = q.text; differ = n; same = e })

  -- a certificate whose digest stands in a list stands there
  pub stands_there : (c : Certificate) (cs : List Certificate) → Texted S ts c → ((d : Certificate) → d ∈ cs → Texted S ts d) → has (leaf_of S.coding c) (leaves_of S.coding cs) ≡ true →
      (c ∈ cs) ⊎ Collides S ts
  stands_there c cs p all h =
      let r = leaf_in S (leaf_of S.coding c) cs (found_is_there (leaf_of S.coding c) (leaves_of S.coding cs) h) in
      elim (one_certificate c r.certificate p (all r.certificate r.there) (sym r.leaf))
      [ inl z ↦ inl (subst (λ (x : Certificate). x ∈ cs) (sym z) r.there) | inr z ↦ inr z ]

  -- one row of leaves, one list of certificates
  pub one_list : (cs ds : List Certificate) → ((c : Certificate) → c ∈ cs → Texted S ts c) → ((d : Certificate) → d ∈ ds → Texted S ts d) →
      leaves_of S.coding cs ≡ leaves_of S.coding ds → (cs ≡ ds) ⊎ Collides S ts
  one_list [] [] p q e = inl refl
  one_list [] (d ∷ ds) p q e = absurd (nil_cons e)
    where
      nil_cons : ◌≡◌ {A = List Bytes} [] (leaf_of S.coding d ∷ leaves_of S.coding ds) → ⊥
      nil_cons z = let y : true ≡ false = cc in absurd (true≢false y)
  one_list (c ∷ cs) [] p q e = absurd (cons_nil e)
    where
      cons_nil : ◌≡◌ {A = List Bytes} (leaf_of S.coding c ∷ leaves_of S.coding cs) [] → ⊥
      cons_nil z = let y : true ≡ false = cc in absurd (true≢false y)
  one_list (c ∷ cs) (d ∷ ds) p q e = let (h, t) = cons_parts _ _ _ _ e in
      join (one_certificate c d (p c (Memᴰ.head refl)) (q d (Memᴰ.head refl)) h) (one_list cs ds (λ x m. p x (Memᴰ.tail m)) (λ x m. q x (Memᴰ.tail m)) t)
    where
      join : (c ≡ d) ⊎ Collides S ts → (cs ≡ ds) ⊎ Collides S ts → (◌≡◌ {A = List Certificate} (c ∷ cs) (d ∷ ds)) ⊎ Collides S ts
      join (inr z) y = inr z
      join (inl x) (inr z) = inr z
      join (inl x) (inl y) = inl (cc)
