-- A function with another value at one argument, seen from each argument. Assumes nothing.
use Rattle.std.proofs.Common.{◌≡◌, ℕ, eqb, refl}
use Rattle.std.proofs.lemmas.Bool.{cond_both, cond-true, eqb-true, eqb-false, eq-eqb}
use Rattle.model.specs.World.{update}

pub update_both : {A : Type 0} (i : ℕ) (x : A) (f : ℕ → A) (j : ℕ) (P : A → Type 0) → (j ≡ i → P x) → (¬ (j ≡ i) → P (f j)) → P (update i x f j)
update_both i x f j P hit miss = cond_both (eqb j i) x (f j) P (λ e. hit (eqb-true j i e)) (λ e. miss (eqb-false j i e))

pub update_here : {A : Type 0} (i : ℕ) (x : A) (f : ℕ → A) → update i x f i ≡ x
update_here i x f = cond-true (eqb i i) x (f i) (eq-eqb i i refl)
