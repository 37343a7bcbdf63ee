-- What is so of every log that lives by its definitions: entries only grow, none stands twice, and every promise is kept by the next tick. Assumes nothing.
use Rattle.std.specs.Prelude.{◌≡◌, ℕ, ◌<◌, ◌≤◌, true, ◌⊎◌, List, [], ◌∷◌, ◌++◌, length}
use Rattle.model.specs.Lists.{◌∈◌, Begins}
use Rattle.model.specs.Objects.{Certificate}
use Rattle.wire_theory.specs.Bytes.{Bytes}
use Rattle.wire_theory.specs.Messages.{Message, SignedSct}
use Rattle.wire_theory.specs.Messages.Message.{sct, submit}
use Rattle.parties.specs.Coding.{Coding, leaf_of, leaves_of}
use Rattle.parties.specs.Log.{LogView, new_log}
use Rattle.parties.specs.Handling.{to_log}
use Rattle.parties.specs.Lives.{LogRun}

-- none stands twice
abbrev pub Distinct : List Bytes → Type 0
Distinct [] = Unit {0}
Distinct (d ∷ ds) = (¬ (d ∈ ds)) × Distinct ds

-- a certificate that its authority, which is known, signed
pub record Signed (K : Coding) (c : Certificate) : Type 0 where
  pub known : K.knows_authority c.issuer ≡ true
  pub signed : c.seal ≡ K.seal_certificate c

-- a promise for a certificate, in the life of a log from its start to a view: the view in which it was given, and the tick
pub record Promised (K : Coding) (start end : LogView) (c : Certificate) : Type 0 where
  pub view : LogView
  pub promise : SignedSct
  pub before : LogRun K start view
  pub given : (to_log K (submit c) view).answer ≡ sct promise
  pub after : LogRun K (to_log K (submit c) view).view end

pub record LogInvariants (K : Coding) : Type 0 where
  -- its time, and its number, and its entries: the later begin with the earlier
  pub time : (v w : LogView) → LogRun K v w → (v.now ≤ w.now) × (w.number ≡ v.number)
  pub entries_grow : (v w : LogView) → LogRun K v w → Begins v.merged w.merged
  -- no digest stands twice among the entries
  pub none_twice : (number : ℕ) (v : LogView) → LogRun K (new_log number) v → Distinct (leaves_of K v.merged)
  -- and each is a certificate that its authority signed
  pub entries_are_signed : (number : ℕ) (v : LogView) → LogRun K (new_log number) v → (c : Certificate) → (c ∈ v.merged) ⊎ (c ∈ v.pending) → Signed K c
  -- there is room for all that is merged
  pub entries_fit : (number : ℕ) (v : LogView) → LogRun K (new_log number) v → length v.merged ≤ 65536
  -- what is pending was promised at the present tick
  pub pending_is_of_now : (number : ℕ) (v : LogView) → LogRun K (new_log number) v → (c : Certificate) → c ∈ v.pending →
      (x : Promised K (new_log number) v c) × (x.promise.at ≡ v.now)
  -- and is among the entries at every later one
  pub pending_is_merged : (v w : LogView) → LogRun K v w → v.now < w.now → (c : Certificate) → c ∈ v.pending → leaf_of K c ∈ leaves_of K w.merged
  -- a promise is by this log, of now, for what is then merged or pending
  pub promise_stands : (m : Message) (v : LogView) (p : SignedSct) → (to_log K m v).answer ≡ sct p →
      (p.log ≡ v.number) × (p.at ≡ v.now) × (p.digest ∈ leaves_of K ((to_log K m v).view.merged ++ (to_log K m v).view.pending))
  -- so it is kept at every later tick
  pub promise_is_kept : (m : Message) (v w : LogView) (p : SignedSct) → (to_log K m v).answer ≡ sct p → LogRun K (to_log K m v).view w → p.at < w.now →
      p.digest ∈ leaves_of K w.merged

abbrev pub LogInvariantsHold : Type 0
LogInvariantsHold = (K : Coding) → LogInvariants K
