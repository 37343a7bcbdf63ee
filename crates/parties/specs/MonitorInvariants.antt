-- What is so of every monitor that lives by its definitions: it has looked through all entries below a log's head, and what it has only grows. Assumes nothing.
use Rattle.std.specs.Prelude.{◌≡◌, ℕ, ◌^◌, ◌<◌, ◌≤◌, true, ◌⊎◌, List, [], length, Some, None, Option}
use Rattle.model.specs.Lists.{◌∈◌, Begins}
use Rattle.model.specs.Objects.{Certificate}
use Rattle.wire_theory.specs.Bytes.{Bytes}
use Rattle.wire_theory.specs.Messages.{Message, SignedHead, Settings}
use Rattle.parties.specs.Coding.{Coding, leaves_of, root_of}
use Rattle.parties.specs.Monitor.{Seen, MonitorView, Fetched, new_monitor, tick_of, with_name, on_fetched}
use Rattle.parties.specs.Handling.{to_monitor}
use Rattle.parties.specs.Lives.{MonitorRun}

-- a head that this log, which is known, signed over just these digests
pub record HeadOver (K : Coding) (log : ℕ) (ds : List Bytes) (h : SignedHead) : Type 0 where
  pub by_it : h.log ≡ log
  pub known : K.knows_log log ≡ true
  pub signed : h.seal ≡ K.seal_head h
  pub count : h.count ≡ length ds
  pub root : h.root ≡ root_of K ds
  pub in_range : h.at < 2 ^ 63

-- without a head there are no digests
abbrev pub Over : Coding → ℕ → List Bytes → Option SignedHead → Type 0
Over K log ds None = ds ≡ []
Over K log ds (Some h) = HeadOver K log ds h

-- the digests are those of some entries, of which it found exactly those with the name, in their order; and the head is over them
pub record LookedThrough (K : Coding) (name : Bytes) (log : ℕ) (x : Seen) : Type 0 where
  pub entries : List Certificate
  pub digests : x.digests ≡ leaves_of K entries
  pub found : x.found ≡ with_name name entries
  pub head : Over K log x.digests x.head

-- what it had of a log, and has later
pub record Grows (x y : Seen) : Type 0 where
  pub digests : Begins x.digests y.digests
  pub found : Begins x.found y.found
  pub tick : tick_of x.head ≤ tick_of y.head

-- whatever it found anew its owner is told of
abbrev pub Told : MonitorView → MonitorView → List Certificate → Type 0
Told v w tells = (log : ℕ) (c : Certificate) → c ∈ (w.logs log).found → (c ∈ (v.logs log).found) ⊎ (c ∈ tells)

pub record MonitorInvariants (K : Coding) (s : Settings) : Type 0 where
  pub time : (v w : MonitorView) → MonitorRun K s v w → (v.now ≤ w.now) × (w.name ≡ v.name)
  pub looked_through : (name : Bytes) (v : MonitorView) → MonitorRun K s (new_monitor name) v → (log : ℕ) → LookedThrough K name log (v.logs log)
  pub seen_grows : (v w : MonitorView) → MonitorRun K s v w → (log : ℕ) → Grows (v.logs log) (w.logs log)
  pub found_is_told : (f : Fetched) (v : MonitorView) → Told v (on_fetched K f v).view (on_fetched K f v).tells
  pub found_is_told_when_asked : (came : Option Fetched) (m : Message) (v : MonitorView) → Told v (to_monitor K s came m v).view (to_monitor K s came m v).tells

abbrev pub MonitorInvariantsHold : Type 0
MonitorInvariantsHold = (K : Coding) (s : Settings) → MonitorInvariants K s
