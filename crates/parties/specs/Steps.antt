-- What a party does with a message: its view after it, and its answer; and the first fault of several. Assumes nothing.
use Rattle.std.specs.Prelude.{ℕ, ◌^◌, Bool, true, false, cond, List, [], ◌∷◌, Some, None, Option, nat_le}
use Rattle.wire_theory.specs.Messages.{Message}
use Rattle.wire_theory.specs.Messages.Message.{refused}

-- a message comes: the view after it, and the answer
pub record Step (V : Type 0) : Type 0 where
  pub view : V
  pub answer : Message

abbrev pub answers : {V : Type 0} → V → Message → Step V
answers v a = record { view = v; answer = a }

-- time passes: the view after it, and what is sent unasked
pub record Tick (V : Type 0) : Type 0 where
  pub view : V
  pub sends : List Message

-- what would be refused, and by which number
pub record Fault : Type 0 where
  pub so : Bool
  pub number : ℕ

infix 68 ◌⇒◌
abbrev pub ◌⇒◌ : Bool → ℕ → Fault
so ⇒ number = record { so = so; number = number }

unfoldable pub first_fault : List Fault → Option ℕ
first_fault [] = None
first_fault (f ∷ fs) = cond f.so (Some f.number) (first_fault fs)

-- refused by the first fault, with the view as it was; else the step
abbrev pub unless_so : {V : Type 0} → Option ℕ → V → Step V → Step V
unless_so None v step = step
unless_so (Some number) v step = answers v (refused number)

abbrev pub unless : {V : Type 0} → List Fault → V → Step V → Step V
unless faults v step = unless_so (first_fault faults) v step

-- the first that there is
abbrev pub or_else : {A : Type 0} → Option A → Option A → Option A
or_else None other = other
or_else (Some x) other = Some x

abbrev pub is_some : {A : Type 0} → Option A → Bool
is_some None = false
is_some (Some x) = true

-- a serial or a tick that would leave 63 bits
abbrev pub too_large : ℕ → Bool
too_large n = nat_le (2 ^ 63) n
