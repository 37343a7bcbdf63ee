-- What the parties must not refuse: orders, certificates, lists, revocations, promises, heads and acceptances that are due. Assumes nothing.
use Rattle.std.specs.Prelude.{◌≡◌, ℕ, ◌+◌, ◌^◌, ◌<◌, ◌≤◌, true, false, ◌⊎◌, length, take, drop, Some, None, Option}
use Rattle.merkle_theory.specs.Bytes.{over_leaves}
use Rattle.merkle_theory.specs.Tree.{consistency}
use Rattle.model.specs.Lists.{◌∈◌}
use Rattle.model.specs.Objects.{Certificate}
use Rattle.wire_theory.specs.Bytes.{Bytes}
use Rattle.wire_theory.specs.Messages.{SignedSct, SignedList, Settings}
use Rattle.wire_theory.specs.Messages.Message.{certificate, sct, list, order, challenge, published, submit, revoke, get_list, present, accepted}
use Rattle.parties.specs.Coding.{Coding, leaf_of, leaves_of}
use Rattle.parties.specs.Authority.{Account, AuthorityView, next_serial, account_of, certificate_for, serials_at, list_of, revoking}
use Rattle.parties.specs.Log.{LogView, promise_of, leaves_in, head_of}
use Rattle.parties.specs.Monitor.{MonitorView, Fetched, tick_of, on_fetched}
use Rattle.parties.specs.RelyingParty.{RelyingView}
use Rattle.parties.specs.Handling.{to_authority, to_log, to_relying}
use Rattle.parties.specs.RelyingInvariants.{Acceptable}

-- serials and ticks that are in range
abbrev pub InRange : ℕ → Type 0
InRange n = n < 2 ^ 63

-- what a log shows to a monitor that has the first so many entries: its head, the consistency proof from them, and the entries since
abbrev pub shown_since : Coding → ℕ → LogView → Fetched
shown_since K m v = record { head = head_of K v; proof = consistency (over_leaves K.hash) m (leaves_in K v); new = drop m v.merged }

pub record NotRefused (K : Coding) (s : Settings) : Type 0 where
  -- an order is answered by a challenge while there are random bytes
  pub ordered : (v : AuthorityView) (found : Option Bytes) (name key : Bytes) → 16 ≤ length v.supply → InRange (next_serial v) →
      (to_authority K s found (order name key) v).answer ≡ challenge (next_serial v) (take 16 v.supply)
  -- a certificate is issued to a serial that has none and isn't revoked, once the response stands at the name
  pub issued : (v : AuthorityView) (serial : ℕ) (a : Account) → account_of serial v.accounts ≡ Some a → a.issued ≡ false → a.revoked ≡ None → InRange (v.now + s.lifetime) →
      (to_authority K s (Some (K.hash (K.response_text serial a.nonce a.key))) (published serial) v).answer ≡ certificate (certificate_for K v.number serial (v.now + s.lifetime) a)
  pub listed : (v : AuthorityView) (found : Option Bytes) → InRange v.now → (to_authority K s found get_list v).answer ≡ list (list_of K s v)
  -- what was issued is revoked when its key says so, while the list has room
  pub revoked : (v : AuthorityView) (found : Option Bytes) (serial : ℕ) (a : Account) → account_of serial v.accounts ≡ Some a → a.issued ≡ true → a.revoked ≡ None →
      length (serials_at s v) < 1024 → InRange v.now →
      (to_authority K s found (revoke serial (K.seal_revoke v.number serial a.key)) v).answer ≡ list (list_of K s (revoking serial a v))
  -- a certificate of an authority that is known is promised while there is room, and anew in any case
  pub promised : (v : LogView) (c : Certificate) → K.knows_authority c.issuer ≡ true → c.seal ≡ K.seal_certificate c →
      (length v.merged + length v.pending < 65536) ⊎ ((leaf_of K c ∈ leaves_of K v.merged) ⊎ (leaf_of K c ∈ leaves_of K v.pending)) →
      InRange c.serial → InRange c.expiry → InRange v.now → (to_log K (submit c) v).answer ≡ sct (promise_of K c v)
  -- and a monitor that has a log's first entries, by an earlier head, takes its head
  pub shown : (v : LogView) (w : MonitorView) (m : ℕ) → m ≤ length v.merged → (w.logs v.number).digests ≡ take m (leaves_in K v) → tick_of (w.logs v.number).head ≤ v.now →
      K.knows_log v.number ≡ true → (head_of K v).seal ≡ K.seal_head (head_of K v) → InRange v.now → (on_fetched K (shown_since K m v) w).fault ≡ None
  -- a list that its authority signed, fresh and not older than the one that is there, is taken
  pub taken : (v : RelyingView) (b : SignedList) → K.knows_authority b.authority ≡ true → b.seal ≡ K.seal_list b → b.at ≤ v.now → v.now ≤ b.at + s.freshness →
      ((old : SignedList) → v.lists b.authority ≡ Some old → old.at ≤ b.at) → InRange b.at → (to_relying K s (list b) v).answer ≡ accepted
  -- and what is acceptable by the list that is there is accepted
  pub acceptable : (v : RelyingView) (c : Certificate) (p q : SignedSct) (b : SignedList) → v.lists c.issuer ≡ Some b → Acceptable K s c p q b v.now →
      (to_relying K s (present c p q) v).answer ≡ accepted

abbrev pub GrantsWhatIsDue : Type 0
GrantsWhatIsDue = (K : Coding) (s : Settings) → NotRefused K s
