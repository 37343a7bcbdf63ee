-- What is so of every run, in the parties' own terms; or two texts that were hashed in it collide. Assumes nothing.
use Rattle.std.specs.Prelude.{◌≡◌, ℕ, ◌+◌, ◌^◌, ◌<◌, ◌≤◌, true, ◌⊎◌, List, [], ◌∷◌, ◌++◌, length, drop, Some, None}
use Rattle.merkle_theory.specs.Bytes.{over_leaves}
use Rattle.merkle_theory.specs.Tree.{consistency}
use Rattle.model.specs.Lists.{◌∈◌}
use Rattle.model.specs.Objects.{Certificate}
use Rattle.wire_theory.specs.Bytes.{Bytes}
use Rattle.wire_theory.specs.Messages.{SignedSct, SignedHead}
use Rattle.parties.specs.Coding.{leaf_of, root_texts_of}
use Rattle.parties.specs.Authority.{Account, account_of}
use Rattle.parties.specs.Steps.{first_fault}
use Rattle.parties.specs.Evidence.{judge}
use Rattle.parties.specs.Evidence.Verdict.{Convicts}
use Rattle.parties.specs.Log.{head_of, leaves_in}
use Rattle.parties.specs.Monitor.{Seen, Fetched, tick_of, faults_of}
use Rattle.parties.specs.RelyingParty.{Kept}
use Rattle.system.specs.Setup.{Setup, Sound, Collides}
use Rattle.system.specs.Runs.{State, Run, Lawful}
use Rattle.system.specs.Runs.Sealed.{SealedCertificate, SealedSct, SealedHead}

abbrev pub OfEveryRun : (Setup → State → Type 0) → Type 0
OfEveryRun P = (S : Setup) → Sound S → (s : State) → Run S s → P S s ⊎ Collides S s.hashed

-- what was accepted, its issuer signed, if that is honest
abbrev pub AcceptedWasIssued : Setup → State → Type 0
AcceptedWasIssued S s = (k : ℕ) (x : Kept) → x ∈ (s.relying k).kept → S.honest_authority x.certificate.issuer ≡ true → SealedCertificate x.certificate ∈ s.signed

-- what an honest authority signed, the owner of the name asked for with just this key, and published the response to the very challenge that stands at the authority for this serial
pub record AskedFor (S : Setup) (s : State) (c : Certificate) : Type 0 where
  pub account : Account
  pub drawn : account_of c.serial (s.authorities c.issuer).accounts ≡ Some account
  pub name : account.name ≡ c.name
  pub key : account.key ≡ c.key
  pub wanted : record { name = c.name; key = c.key } ∈ s.wanted
  pub published : record { name = c.name; found = S.coding.hash (S.coding.response_text c.serial account.nonce c.key) } ∈ s.published

abbrev pub IssuedWasAskedFor : Setup → State → Type 0
IssuedWasAskedFor S s = (c : Certificate) → S.honest_authority c.issuer ≡ true → SealedCertificate c ∈ s.signed → AskedFor S s c

-- an honest authority signs one certificate to a serial
abbrev pub OneCertificate : Setup → State → Type 0
OneCertificate S s = (c d : Certificate) → S.honest_authority c.issuer ≡ true → SealedCertificate c ∈ s.signed → SealedCertificate d ∈ s.signed →
    d.issuer ≡ c.issuer → d.serial ≡ c.serial → d ≡ c

-- a monitor has a certificate in sight: its digest, and if the name is its own, the certificate among those that it told its owner of
pub record Sees (S : Setup) (name : Bytes) (x : Seen) (c : Certificate) : Type 0 where
  pub digest : leaf_of S.coding c ∈ x.digests
  pub told : c.name ≡ name → c ∈ x.found

-- what it has convicts the log that promised
pub record Evident (S : Setup) (p : SignedSct) (x : Seen) : Type 0 where
  pub head : SignedHead
  pub kept : x.head ≡ Some head
  pub convicts : judge S.coding S.settings p head x.digests ≡ Convicts

-- what was accepted: once a monitor has a head of either log as late as its promise is due, it is in sight, or that promise, that head and those digests convict the log
abbrev pub AcceptedIsSeen : Type 0
AcceptedIsSeen = (S : Setup) → Sound S → (s : State) → Run S s → (k : ℕ) (x : Kept) → x ∈ (s.relying k).kept → (p : SignedSct) → p ∈ x.first ∷ (x.second ∷ []) → (n : ℕ) →
    p.at + S.settings.mmd ≤ tick_of ((s.monitors n).logs p.log).head →
    Sees S (s.monitors n).name ((s.monitors n).logs p.log) x.certificate ⊎ (Evident S p ((s.monitors n).logs p.log) ⊎ Collides S s.hashed)

-- and of an honest log it is in sight
abbrev pub HonestIsSeen : Setup → State → Type 0
HonestIsSeen S s = (k : ℕ) (x : Kept) → x ∈ (s.relying k).kept → (p : SignedSct) → p ∈ x.first ∷ (x.second ∷ []) → S.honest_log p.log ≡ true → (n : ℕ) →
    p.at + S.settings.mmd ≤ tick_of ((s.monitors n).logs p.log).head → Sees S (s.monitors n).name ((s.monitors n).logs p.log) x.certificate

-- what an honest authority revoked was accepted by nobody later than a list is fresh after that
abbrev pub RevokedIsNotAccepted : Setup → State → Type 0
RevokedIsNotAccepted S s = (k : ℕ) (x : Kept) → x ∈ (s.relying k).kept → S.honest_authority x.certificate.issuer ≡ true →
    (y : Account) (t : ℕ) → account_of x.certificate.serial (s.authorities x.certificate.issuer).accounts ≡ Some y → y.revoked ≡ Some t → x.at ≤ t + S.settings.freshness

-- nothing convicts an honest log: or two texts collide, of those that were hashed in the run and those of the digests that were brought against it
abbrev pub NeverConvicted : Type 0
NeverConvicted = (S : Setup) → Sound S → (s : State) → Run S s → (p : SignedSct) (h : SignedHead) (ds : List Bytes) → ((d : Bytes) → d ∈ ds → length d ≡ 32) →
    S.honest_log p.log ≡ true → Lawful S s (SealedSct p) → Lawful S s (SealedHead h) → judge S.coding S.settings p h ds ≡ Convicts →
    Collides S (root_texts_of S.coding ds ++ s.hashed)

-- what an honest log, asked for its head, for the consistency proof from what a monitor has, and for the entries since, answers
abbrev pub answers_of : Setup → State → ℕ → ℕ → List Certificate → Fetched
answers_of S s l n new = record {
  head = head_of S.coding (s.logs l);
  proof = consistency (over_leaves S.coding.hash) (length ((s.monitors n).logs l).digests) (leaves_in S.coding (s.logs l));
  new = new;
}

-- every head that an honest log signs a monitor takes, given its proof and its entries since: it finds no fault
abbrev pub HeadIsTaken : Setup → State → Type 0
HeadIsTaken S s = (l n : ℕ) → S.honest_log l ≡ true → S.coding.knows_log l ≡ true → (s.logs l).now ≡ s.clock → s.clock < 2 ^ 63 →
    ((h : SignedHead) (z : Bytes) → S.coding.seal_head h ≡ S.coding.seal_head (record { log = h.log; at = h.at; count = h.count; root = h.root; seal = z })) →
    first_fault (faults_of S.coding ((s.monitors n).logs l) (answers_of S s l n (drop (length ((s.monitors n).logs l).digests) (s.logs l).merged))) ≡ None
