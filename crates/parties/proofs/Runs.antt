-- What no event undoes is so after any run; beginnings of lists; and functions with another value at one argument. Assumes nothing.
use Rattle.std.proofs.Common.{◌≡◌, ℕ, eqb, List, [], ◌++◌, sym, refl, ap, ◌∙◌, append_assoc, append-nil}
use Rattle.std.proofs.lemmas.Bool.{cond_both, cond-true, eqb-true, eqb-false, eq-eqb}
use Rattle.model.specs.Lists.{Begins}
use Rattle.model.specs.World.{update}
use Rattle.parties.specs.Lives.{Run}
use Rattle.parties.specs.Lives.Run.{here, onward}

pub kept : {V E : Type 0} {after : E → V → V} (P : V → Type 0) → ((e : E) (u : V) → P u → P (after e u)) → {v w : V} → Run after v w → P v → P w
kept P step here p = p
kept P step (onward {u = u} r e) p = step e u (kept P step r p)

pub begins_refl : {A : Type 0} (xs : List A) → Begins xs xs
begins_refl xs = record { more = []; is = sym (append-nil xs) }

pub begins_trans : {A : Type 0} {xs ys zs : List A} → Begins xs ys → Begins ys zs → Begins xs zs
begins_trans {xs = xs} b c = record { more = b.more ++ c.more; is = c.is ∙ (ap (λ ys. ys ++ c.more) b.is ∙ append_assoc xs b.more c.more) }

-- a function with another value at one argument

pub update_both : {A : Type 0} (i : ℕ) (x : A) (f : ℕ → A) (j : ℕ) (P : A → Type 0) → (j ≡ i → P x) → (¬ (j ≡ i) → P (f j)) → P (update i x f j)
update_both i x f j P hit miss = cond_both (eqb j i) x (f j) P (λ e. hit (eqb-true j i e)) (λ e. miss (eqb-false j i e))

pub update_here : {A : Type 0} (i : ℕ) (x : A) (f : ℕ → A) → update i x f i ≡ x
update_here i x f = cond-true (eqb i i) x (f i) (eq-eqb i i refl)
