-- What a monitor answers to a promise that is brought to it is so, and what is to settle the promise settles it. Assumes nothing.
use Rattle.std.specs.Prelude.{◌≡◌, ℕ, ◌+◌, ◌<◌, ◌≤◌, Some, None, Option}
use Rattle.merkle_theory.specs.Claims.{Stands}
use Rattle.merkle_theory.specs.Tree.{PathLeads}
use Rattle.model.specs.Lists.{◌∈◌}
use Rattle.model.specs.Objects.{Certificate}
use Rattle.wire_theory.specs.Bytes.{Bytes}
use Rattle.wire_theory.specs.Messages.{SignedSct, SignedHead, Settings, MonitorAnswer}
use Rattle.wire_theory.specs.Messages.Message.{bring, answer}
use Rattle.wire_theory.specs.Messages.MonitorAnswer.{included, not_due, convicts, no_head_so_late}
use Rattle.parties.specs.Coding.{Coding, node_of}
use Rattle.parties.specs.Evidence.{judge}
use Rattle.parties.specs.Evidence.Verdict.{Convicts}
use Rattle.parties.specs.Monitor.{Seen, MonitorView, Fetched, new_monitor}
use Rattle.parties.specs.RelyingParty.{due_after}
use Rattle.parties.specs.Handling.{to_monitor}
use Rattle.parties.specs.Lives.{MonitorRun}
use Rattle.parties.specs.LogInvariants.{Signed}
use Rattle.parties.specs.RelyingInvariants.{PromiseFor}

-- what an answer at a tick says of what the monitor has of the log
abbrev pub Says : Coding → Settings → ℕ → SignedSct → Seen → MonitorAnswer → Type 0
Says K s t p x (included h place way) = (x.head ≡ Some h) × Stands x.digests place p.digest × PathLeads (node_of K) h.count place p.digest way h.root
Says K s t p x not_due = t < p.at + s.mmd
Says K s t p x (convicts h ds) = (x.head ≡ Some h) × (x.digests ≡ ds) × (judge K s p h ds ≡ Convicts)
Says K s t p x no_head_so_late = (p.at + s.mmd ≤ t) × ((h : SignedHead) → x.head ≡ Some h → h.at < p.at + s.mmd) × (¬ (p.digest ∈ x.digests))

-- by these answers a relying party has nothing more to bring
abbrev pub Settles : Coding → Settings → SignedSct → MonitorAnswer → Type 0
Settles K s p (included h place way) = (t : ℕ) → due_after K s t p (included h place way) ≡ None
Settles K s p not_due = Unit {0}
Settles K s p (convicts h ds) = (t : ℕ) → due_after K s t p (convicts h ds) ≡ None
Settles K s p no_head_so_late = Unit {0}

-- it answers of nothing but a certificate that its authority signed, with a promise for it
pub record Answered (K : Coding) (s : Settings) (t : ℕ) (c : Certificate) (p : SignedSct) (w : MonitorView) (a : MonitorAnswer) : Type 0 where
  pub certificate : Signed K c
  pub promise : PromiseFor K c t p
  pub says : Says K s w.now p (w.logs p.log) a
  pub settles : Settles K s p a

abbrev pub AnswersAreTrue : Type 0
AnswersAreTrue = (K : Coding) (s : Settings) (name : Bytes) (v : MonitorView) → MonitorRun K s (new_monitor name) v →
    (came : Option Fetched) (c : Certificate) (p : SignedSct) (a : MonitorAnswer) → (to_monitor K s came (bring c p) v).says ≡ answer a →
    Answered K s v.now c p (to_monitor K s came (bring c p) v).view a
