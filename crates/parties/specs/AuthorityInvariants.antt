-- What is so of every authority that lives by its definitions: of serials, certificates, revocations and lists. Assumes nothing.
use Rattle.std.specs.Prelude.{◌≡◌, ℕ, ◌+◌, ◌/◌, ◌^◌, ◌<◌, ◌≤◌, true, false, ◌↔◌, ◌++◌, length, Some, None, Option}
use Rattle.model.specs.Lists.{◌∈◌, Rising}
use Rattle.model.specs.Objects.{Certificate}
use Rattle.wire_theory.specs.Bytes.{Bytes}
use Rattle.wire_theory.specs.Messages.{Message, SignedList, Settings}
use Rattle.wire_theory.specs.Messages.Message.{certificate, list, order, challenge, published, revoke}
use Rattle.parties.specs.Coding.{Coding}
use Rattle.parties.specs.Authority.{Account, AuthorityView, account_of, account_for, serials_at, list_of, on_tick, new_authority}
use Rattle.parties.specs.Handling.{to_authority}
use Rattle.parties.specs.Lives.{AuthorityRun}

-- an account and what became of it: its order stays, what was issued stays issued, and what was revoked stays so at the same tick
pub record Since (a b : Account) : Type 0 where
  pub name : b.name ≡ a.name
  pub key : b.key ≡ a.key
  pub nonce : b.nonce ≡ a.nonce
  pub issued : a.issued ≡ true → b.issued ≡ true
  pub revoked : (t : ℕ) → a.revoked ≡ Some t → b.revoked ≡ Some t

-- a challenge answers an order: by a serial that had no account, and now has that of the order
pub record Draws (m : Message) (v w : AuthorityView) (serial : ℕ) (nonce : Bytes) : Type 0 where
  pub name : Bytes
  pub key : Bytes
  pub ordered : m ≡ order name key
  pub unused : account_of serial v.accounts ≡ None
  pub drawn : account_of serial w.accounts ≡ Some (account_for name key nonce)
  -- the nonce's bytes are used once
  pub used : v.supply ≡ nonce ++ w.supply

-- a certificate answers that a response was published: it is that of the account's order, to which none was issued before, which isn't revoked, and whose response stands at the name
pub record Issues (K : Coding) (s : Settings) (m : Message) (found : Option Bytes) (v w : AuthorityView) (c : Certificate) : Type 0 where
  pub account : Account
  pub told : m ≡ published c.serial
  pub drawn : account_of c.serial v.accounts ≡ Some account
  pub not_issued : account.issued ≡ false
  pub not_revoked : account.revoked ≡ None
  pub response : found ≡ Some (K.hash (K.response_text c.serial account.nonce account.key))
  pub issuer : c.issuer ≡ v.number
  pub name : c.name ≡ account.name
  pub key : c.key ≡ account.key
  pub expiry : c.expiry ≡ v.now + s.lifetime
  pub after : Account
  pub stays : account_of c.serial w.accounts ≡ Some after
  pub issued : after.issued ≡ true

-- a serial was revoked no more than a lifetime ago
pub record RevokedLately (s : Settings) (v : AuthorityView) (serial : ℕ) : Type 0 where
  pub account : Account
  pub drawn : account_of serial v.accounts ≡ Some account
  pub at : ℕ
  pub revoked : account.revoked ≡ Some at
  pub lately : v.now ≤ at + s.lifetime

pub record AuthorityInvariants (K : Coding) (s : Settings) : Type 0 where
  pub time : (v w : AuthorityView) → AuthorityRun K s v w → (v.now ≤ w.now) × (w.number ≡ v.number)
  pub accounts_stay : (v w : AuthorityView) → AuthorityRun K s v w → (serial : ℕ) (a : Account) → account_of serial v.accounts ≡ Some a →
      (b : Account) × (account_of serial w.accounts ≡ Some b) × Since a b
  -- serials rise, and none is drawn twice
  pub drawn_once : (found : Option Bytes) (m : Message) (v : AuthorityView) (serial : ℕ) (nonce : Bytes) → (to_authority K s found m v).answer ≡ challenge serial nonce →
      Draws m v (to_authority K s found m v).view serial nonce
  pub serials_rise : (found found' : Option Bytes) (m m' : Message) (v w : AuthorityView) (serial serial' : ℕ) (nonce nonce' : Bytes) →
      (to_authority K s found m v).answer ≡ challenge serial nonce → AuthorityRun K s (to_authority K s found m v).view w →
      (to_authority K s found' m' w).answer ≡ challenge serial' nonce' → serial < serial'
  -- a certificate is issued to a serial once
  pub issued_right : (found : Option Bytes) (m : Message) (v : AuthorityView) (c : Certificate) → (to_authority K s found m v).answer ≡ certificate c →
      Issues K s m found v (to_authority K s found m v).view c
  pub issued_once : (found found' : Option Bytes) (m m' : Message) (v w : AuthorityView) (c c' : Certificate) →
      (to_authority K s found m v).answer ≡ certificate c → AuthorityRun K s (to_authority K s found m v).view w →
      (to_authority K s found' m' w).answer ≡ certificate c' → ¬ (c'.serial ≡ c.serial)
  -- no message revokes a serial but one that its key signed, and only what was issued
  pub revoked_by_key : (found : Option Bytes) (m : Message) (v : AuthorityView) (serial : ℕ) (a b : Account) (t : ℕ) → account_of serial v.accounts ≡ Some a → a.revoked ≡ None →
      account_of serial (to_authority K s found m v).view.accounts ≡ Some b → b.revoked ≡ Some t →
      (m ≡ revoke serial (K.seal_revoke v.number serial a.key)) × (a.issued ≡ true) × (t ≡ v.now)
  -- a list is that of the view after it; it rises, has exactly what was revoked no more than a lifetime ago, and 1,024 serials at most
  pub list_is_of_now : (found : Option Bytes) (m : Message) (v : AuthorityView) (b : SignedList) → (to_authority K s found m v).answer ≡ list b → b ≡ list_of K s (to_authority K s found m v).view
  pub list_is_sent : (t : ℕ) (v : AuthorityView) (m : Message) → m ∈ (on_tick K s t v).sends → m ≡ list (list_of K s (on_tick K s t v).view)
  -- and at each tick the last was signed no more than half of freshness ago
  pub listed_in_time : (t : ℕ) (v : AuthorityView) → v.now ≤ t → t < 2 ^ 63 → (at : ℕ) × ((on_tick K s t v).view.listed ≡ Some at) × (t ≤ at + s.freshness / 2)
  pub list_rises : (v : AuthorityView) → Rising (serials_at s v)
  pub list_is_exact : (v : AuthorityView) (serial : ℕ) → (serial ∈ serials_at s v) ↔ RevokedLately s v serial
  pub list_has_room : (number : ℕ) (supply : Bytes) (v : AuthorityView) → AuthorityRun K s (new_authority number supply) v → length (serials_at s v) ≤ 1024

abbrev pub AuthorityInvariantsHold : Type 0
AuthorityInvariantsHold = (K : Coding) (s : Settings) → AuthorityInvariants K s
