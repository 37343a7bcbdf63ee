-- What a first fault tells of each. Assumes nothing.
use Rattle.std.proofs.Common.{◌≡◌, ℕ, Bool, true, false, cond, List, ◌∷◌, Some, None, Option, refl}
use Rattle.wire_theory.specs.Messages.Message.{refused}
use Rattle.parties.specs.Steps.{Step, answers, Fault, first_fault, unless_so, unless}

pub some_none : {A B : Type 0} {x : A} → ◌≡◌ {A = Option A} (Some x) None → B
some_none z = absurd (absurd_at (cc))
  where
    absurd_at : true ≡ false → ⊥
    absurd_at y = mathlib.Core.Bool.true≢false y

pub same_some : {A : Type 0} {x y : A} → ◌≡◌ {A = Option A} (Some x) (Some y) → x ≡ y
same_some e = cc

-- no fault is so
pub no_first : (f : Fault) (fs : List Fault) → first_fault (f ∷ fs) ≡ None → f.so ≡ false
unfolding first_fault
no_first f fs e = cases f.so refl e
  where
    cases : (b : Bool) → f.so ≡ b → cond b (Some f.number) (first_fault fs) ≡ None → f.so ≡ false
    cases true q z = some_none z
    cases false q z = q

pub no_more : (f : Fault) (fs : List Fault) → first_fault (f ∷ fs) ≡ None → first_fault fs ≡ None
unfolding first_fault
no_more f fs e = cases f.so e
  where
    cases : (b : Bool) → cond b (Some f.number) (first_fault fs) ≡ None → first_fault fs ≡ None
    cases true z = some_none z
    cases false z = z

-- refused with the view as it was, or no fault is so
pub unless_both : {V : Type 0} (faults : List Fault) (v : V) (x : Step V) (P : Step V → Type 0) → ((n : ℕ) → P (answers v (refused n))) → (first_fault faults ≡ None → P x) → P (unless faults v x)
unless_both faults v x P no_way go = cases (first_fault faults) refl
  where
    cases : (o : Option ℕ) → first_fault faults ≡ o → P (unless_so o v x)
    cases None e = go e
    cases (Some n) e = no_way n
