-- What is so of every relying party that lives by its definitions: its lists never get older, and what it accepted met all checks. Assumes nothing.
use Rattle.std.specs.Prelude.{◌≡◌, ℕ, suc, ◌+◌, ◌^◌, ◌<◌, ◌≤◌, true, ◌⊎◌, ◌∷◌, length, Some, None, Option}
use Rattle.merkle_theory.specs.Tree.{PathLeads}
use Rattle.model.specs.Lists.{◌∈◌}
use Rattle.model.specs.Objects.{Certificate}
use Rattle.wire_theory.specs.Messages.{SignedSct, SignedList, Settings, MonitorAnswer}
use Rattle.wire_theory.specs.Messages.Message.{list, bring, present, accepted}
use Rattle.wire_theory.specs.Messages.MonitorAnswer.{included, not_due, convicts, no_head_so_late}
use Rattle.parties.specs.Coding.{Coding, leaf_of, node_of}
use Rattle.parties.specs.Evidence.{judge}
use Rattle.parties.specs.Evidence.Verdict.{Convicts}
use Rattle.parties.specs.RelyingParty.{Kept, RelyingView, new_relying, brings_all, due_after}
use Rattle.parties.specs.Handling.{to_relying}
use Rattle.parties.specs.Lives.{RelyingRun}

-- of a lower tick than the other, or of the same and no longer; or there was none
abbrev pub NotNewer : Option SignedList → Option SignedList → Type 0
NotNewer None new = Unit {0}
NotNewer (Some old) None = ⊥
NotNewer (Some old) (Some new) = (old.at ≤ new.at) × (old.at ≡ new.at → length old.serials ≤ length new.serials)

-- a list that this authority, which is known, signed
pub record ListBy (K : Coding) (authority : ℕ) (b : SignedList) : Type 0 where
  pub known : K.knows_authority authority ≡ true
  pub by_it : b.authority ≡ authority
  pub signed : b.seal ≡ K.seal_list b

-- a promise for this certificate by a log that is known, not of the future
pub record PromiseFor (K : Coding) (c : Certificate) (t : ℕ) (p : SignedSct) : Type 0 where
  pub known : K.knows_log p.log ≡ true
  pub signed : p.seal ≡ K.seal_sct p
  pub digest : p.digest ≡ leaf_of K c
  pub not_future : p.at ≤ t

-- a certificate with two promises and a list meets all checks at a tick
pub record Acceptable (K : Coding) (s : Settings) (c : Certificate) (p q : SignedSct) (b : SignedList) (t : ℕ) : Type 0 where
  pub known : K.knows_authority c.issuer ≡ true
  pub signed : c.seal ≡ K.seal_certificate c
  pub first : PromiseFor K c t p
  pub second : PromiseFor K c t q
  pub two_logs : ¬ (p.log ≡ q.log)
  pub not_expired : t ≤ c.expiry
  pub list : ListBy K c.issuer b
  pub fresh : (b.at ≤ t) × (t ≤ b.at + s.freshness)
  pub not_revoked : ¬ (c.serial ∈ b.serials)
  pub in_range : (c.serial < 2 ^ 63) × (c.expiry < 2 ^ 63) × (t < 2 ^ 63)

-- what is kept of two is the same acceptance, whatever is still to be brought
pub record SameAcceptance (k j : Kept) : Type 0 where
  pub certificate : k.certificate ≡ j.certificate
  pub first : k.first ≡ j.first
  pub second : k.second ≡ j.second
  pub list : k.list ≡ j.list
  pub at : k.at ≡ j.at

-- an answer of a monitor's that settles a promise: the certificate stands in the log, or the log is convicted
abbrev pub SettledBy : Coding → Settings → SignedSct → MonitorAnswer → Type 0
SettledBy K s p (included h place way) = (h.log ≡ p.log) × (h.seal ≡ K.seal_head h) × PathLeads (node_of K) h.count place p.digest way h.root
SettledBy K s p not_due = ⊥
SettledBy K s p (convicts h ds) = judge K s p h ds ≡ Convicts
SettledBy K s p no_head_so_late = ⊥

-- a promise that needn't be brought again was settled by some answer
abbrev pub SettledIfNotDue : Coding → Settings → SignedSct → Option ℕ → Type 0
SettledIfNotDue K s p due = due ≡ None → (a : MonitorAnswer) × SettledBy K s p a

pub record RelyingInvariants (K : Coding) (s : Settings) : Type 0 where
  pub time : (v w : RelyingView) → RelyingRun K s v w → v.now ≤ w.now
  -- its list of an authority is never exchanged for an older one
  pub lists_get_newer : (v w : RelyingView) → RelyingRun K s v w → (a : ℕ) → NotNewer (v.lists a) (w.lists a)
  -- and is one that the authority signed
  pub lists_are_signed : (v : RelyingView) → RelyingRun K s new_relying v → (a : ℕ) (b : SignedList) → v.lists a ≡ Some b → ListBy K a b
  -- which was fresh when it was taken
  pub taken_was_fresh : (v : RelyingView) (b : SignedList) → (to_relying K s (list b) v).answer ≡ accepted → ListBy K b.authority b × (b.at ≤ v.now) × (v.now ≤ b.at + s.freshness)
  -- what it accepted met all checks then
  pub accepted_was_acceptable : (v : RelyingView) → RelyingRun K s new_relying v → (k : Kept) → k ∈ v.kept →
      Acceptable K s k.certificate k.first k.second k.list k.at × (k.at ≤ v.now)
  -- what it accepts it keeps, with the list that it has
  pub accepted_is_kept : (v : RelyingView) (c : Certificate) (p q : SignedSct) → (to_relying K s (present c p q) v).answer ≡ accepted →
      (k : Kept) × ((to_relying K s (present c p q) v).view.kept ≡ k ∷ v.kept) × (k.certificate ≡ c) × (k.first ≡ p) × (k.second ≡ q) × (v.lists c.issuer ≡ Some k.list) × (k.at ≡ v.now)
  pub kept_stays : (v w : RelyingView) → RelyingRun K s v w → (k : Kept) → k ∈ v.kept → (j : Kept) × (j ∈ w.kept) × SameAcceptance k j
  -- each promise is brought when it is due; an answer that doesn't settle it leaves it due at the next tick, or when the log has to keep it; and only what settles it ends that
  pub brought_when_due : (v : RelyingView) (k : Kept) → k ∈ v.kept → (t due : ℕ) → due ≤ t →
      (k.first_due ≡ Some due → bring k.certificate k.first ∈ brings_all t v.kept) × (k.second_due ≡ Some due → bring k.certificate k.second ∈ brings_all t v.kept)
  pub due_again : (t : ℕ) (p : SignedSct) (a : MonitorAnswer) (due : ℕ) → due_after K s t p a ≡ Some due → (due ≡ suc t) ⊎ (due ≡ p.at + s.mmd)
  pub ended_by_settling : (v : RelyingView) → RelyingRun K s new_relying v → (k : Kept) → k ∈ v.kept → SettledIfNotDue K s k.first k.first_due × SettledIfNotDue K s k.second k.second_due
  -- once it was handed a list, it accepts nothing of that authority by an older one, nor what the list that it goes by has
  pub not_by_an_older_list : (v w : RelyingView) (b : SignedList) (c : Certificate) (p q : SignedSct) → (to_relying K s (list b) v).answer ≡ accepted →
      RelyingRun K s (to_relying K s (list b) v).view w → (to_relying K s (present c p q) w).answer ≡ accepted → c.issuer ≡ b.authority →
      (l : SignedList) × (w.lists c.issuer ≡ Some l) × NotNewer (Some b) (Some l) × (¬ (c.serial ∈ l.serials))

abbrev pub RelyingInvariantsHold : Type 0
RelyingInvariantsHold = (K : Coding) (s : Settings) → RelyingInvariants K s
