-- The first fault of several: what it is, and that there is none. Assumes nothing.
use Rattle.std.proofs.Common.{◌≡◌, ℕ, Bool, true, false, ◌&&◌, leb, List, [], ◌∷◌, Some, None, Option, sym, refl, subst, arith}
use Rattle.std.proofs.lemmas.Bool.{cond_both, cond-false, and_parts, leb-true}
use Rattle.wire_theory.specs.Messages.Message.{refused}
use Rattle.parties.specs.Steps.{Step, answers, Fault, first_fault, unless_so, unless}
use Rattle.parties.specs.Handling.{IsCause}

-- a step that may be refused: by the first fault, or not at all
pub unless_cases : {V : Type 0} (fs : List Fault) (v : V) (step : Step V) (P : Step V → Type 0) →
    ((n : ℕ) → first_fault fs ≡ Some n → P (answers v (refused n))) → (first_fault fs ≡ None → P step) → P (unless fs v step)
unless_cases {V} fs v step P some none = go (first_fault fs) refl
  where
    go : (o : Option ℕ) → first_fault fs ≡ o → P (unless_so o v step)
    go None e = none e
    go (Some n) e = some n e

pub not_some : {A B : Type 0} (x : B) → ◌≡◌ {A = Option B} (Some x) None → A
not_some x e = let z : ◌≡◌ {A = ℕ} 0 1 = cc in absurd (omega (arith, z))

pub same_some : {B : Type 0} (x y : B) → ◌≡◌ {A = Option B} (Some x) (Some y) → x ≡ y
same_some x y e = cc

pub first_fault_none : (f : Fault) (fs : List Fault) → first_fault (f ∷ fs) ≡ None → (f.so ≡ false) × (first_fault fs ≡ None)
unfolding first_fault
first_fault_none f fs = cond_both f.so (Some f.number) (first_fault fs) (λ o. o ≡ None → (f.so ≡ false) × (first_fault fs ≡ None)) (λ t e. not_some f.number e) (λ t e. (t, e))

pub no_fault : (f : Fault) → f.so ≡ false → first_fault (f ∷ []) ≡ None
unfolding first_fault
no_fault f e = cond-false f.so (Some f.number) None e

-- all numbers are those of causes
abbrev pub numbered : List Fault → Bool
numbered [] = true
numbered (f ∷ fs) = (leb 1 f.number && leb f.number 14) && numbered fs

pub numbered_first : (fs : List Fault) → numbered fs ≡ true → (n : ℕ) → first_fault fs ≡ Some n → IsCause n
unfolding first_fault
numbered_first [] nums n = λ e. not_some n (sym e)
numbered_first (f ∷ fs) nums n = let (here, rest) = and_parts _ _ nums in let (low, high) = and_parts _ _ here in
    cond_both f.so (Some f.number) (first_fault fs) (λ o. o ≡ Some n → IsCause n)
    (λ t e. subst IsCause (same_some f.number n e) (leb-true _ _ low, leb-true _ _ high)) (λ t e. numbered_first fs rest n e)
