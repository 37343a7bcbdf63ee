-- What comparing bytes, and looking them up, tells. Assumes nothing.
use Rattle.std.proofs.Common.{◌≡◌, true, false, List, [], ◌∷◌, inl, inr, true≢false}
use mathlib.Core.Bool.{false≢true}
use mathlib.Core.List.Memᴰ
use mathlib.Core.List.{List-discrete}
use native.Mathlib.Decide.{ℕ_discrete}
use Rattle.std.proofs.lemmas.Bool.{cases_Bool, or_cases, or_parts}
use Rattle.model.specs.Lists.{◌∈◌}
use Rattle.wire_theory.specs.Bytes.{Bytes}
use Rattle.parties.specs.Coding.{told, same_bytes, has}

told_true : {P : Type 0} (d : Dec P) → told d ≡ true → P
told_true (yes p) e = p
told_true (no n) e = absurd (false≢true e)

told_false : {P : Type 0} (d : Dec P) → told d ≡ false → ¬ P
told_false (yes p) e = absurd (true≢false e)
told_false (no n) e = n

pub same_true : (s t : Bytes) → same_bytes s t ≡ true → s ≡ t
unfolding same_bytes
same_true s t e = told_true (List-discrete ℕ_discrete s t) e

pub same_false : (s t : Bytes) → same_bytes s t ≡ false → ¬ (s ≡ t)
unfolding same_bytes
same_false s t e = told_false (List-discrete ℕ_discrete s t) e

pub has_true : (d : Bytes) (ds : List Bytes) → has d ds ≡ true → d ∈ ds
unfolding has
has_true d [] e = absurd (false≢true e)
has_true d (x ∷ ds) e = elim (or_cases _ _ e) [ inl h ↦ Memᴰ.head (same_true d x h) | inr t ↦ Memᴰ.tail (has_true d ds t) ]

pub has_false : (d : Bytes) (ds : List Bytes) → has d ds ≡ false → ¬ (d ∈ ds)
unfolding has
has_false d [] e m = elim m [ ]
has_false d (x ∷ ds) e m = elim (Memᴰ.cases_cons m) [ inl q ↦ same_false d x (or_parts _ _ e).0 q | inr t ↦ has_false d ds (or_parts _ _ e).1 t ]

pub same_from : (s t : Bytes) → s ≡ t → same_bytes s t ≡ true
same_from s t e = elim (cases_Bool (same_bytes s t)) [ inl b ↦ b | inr b ↦ absurd (same_false s t b e) ]

pub differ_from : (s t : Bytes) → ¬ (s ≡ t) → same_bytes s t ≡ false
differ_from s t n = elim (cases_Bool (same_bytes s t)) [ inl b ↦ absurd (n (same_true s t b)) | inr b ↦ b ]

pub has_from : (d : Bytes) (ds : List Bytes) → d ∈ ds → has d ds ≡ true
has_from d ds m = elim (cases_Bool (has d ds)) [ inl b ↦ b | inr b ↦ absurd (has_false d ds b m) ]
