-- What is guaranteed of every world that can be reached, whatever dishonest authorities and logs do. Assumes nothing.
use Rattle.std.specs.Prelude.{◌≡◌, ℕ, ◌+◌, ◌<◌, ◌≤◌, true, ◌⊎◌, List, [], ◌∷◌}
use Rattle.model.specs.Lists.{◌∈◌, Begins, Rising}
use Rattle.model.specs.Objects.{Certificate, Order, Sct, TreeHead, RevocationList, Revocation, Acceptance}
use Rattle.model.specs.Objects.Signed.{Issued, Promised, Headed, Listed}
use Rattle.model.specs.World.{Sender, World, Happened, start, apply}
use Rattle.model.specs.World.Event.{Orders, Publishes, Signs, Revokes, Accepts}
use Rattle.model.specs.Rules.{Rules, Asked, wish_of, response_to, Drawn, IsRevoked, Fulfils, MayHead, MayTake, MayAccept, Steps}

-- Certificates

-- the owner of the name asked for this certificate, with just this key, and published the response to the very challenge that its issuer drew
pub record AskedFor (w : World) (c : Certificate) : Type 0 where
  pub asked : Asked w (wish_of c)
  pub sender : Sender
  pub order : Order
  pub ordered : Happened w (Orders sender order)
  pub fulfils : Fulfils order c
  pub published : Happened w (Publishes (response_to order))

pub record Issuing (r : Rules) (w : World) : Type 0 where
  -- what was accepted, the authority named in it issued
  pub accepted_was_issued : (x : Acceptance) → Happened w (Accepts x) → Happened w (Signs (Issued x.certificate))
  -- and what an honest authority issued, the owner of the name asked for
  pub issued_was_asked_for : (c : Certificate) → r.honest_authority c.issuer ≡ true → Happened w (Signs (Issued c)) → AskedFor w c
  -- it is good for no longer than a lifetime
  pub issued_expires : (c : Certificate) → r.honest_authority c.issuer ≡ true → Happened w (Signs (Issued c)) → c.expiry ≤ w.now + r.lifetime
  -- an honest authority draws a serial for one order, and issues one certificate to it
  pub one_order : (s t : Sender) (o p : Order) → r.honest_authority o.authority ≡ true → Happened w (Orders s o) → Happened w (Orders t p) →
      p.authority ≡ o.authority → p.serial ≡ o.serial → p ≡ o
  pub one_certificate : (c d : Certificate) → r.honest_authority c.issuer ≡ true → Happened w (Signs (Issued c)) → Happened w (Signs (Issued d)) →
      d.issuer ≡ c.issuer → d.serial ≡ c.serial → d ≡ c

-- Acceptance

pub record Accepting (r : Rules) (w : World) : Type 0 where
  -- what was accepted had not expired
  pub in_time : (x : Acceptance) → Happened w (Accepts x) → (x.at ≤ w.now) × (x.at ≤ x.certificate.expiry)
  -- two different logs had promised it
  pub two_logs : (x : Acceptance) → Happened w (Accepts x) → ¬ (x.first.log ≡ x.second.log)
  pub promised : (x : Acceptance) → Happened w (Accepts x) → (s : Sct) → s ∈ x.first ∷ (x.second ∷ []) →
      Happened w (Signs (Promised s)) × (s.certificate ≡ x.certificate) × (s.at ≤ x.at)
  -- and a list of its issuer, then fresh, was without it
  pub cleared : (x : Acceptance) → Happened w (Accepts x) →
      Happened w (Signs (Listed x.list)) × (x.list.authority ≡ x.certificate.issuer) × (x.list.at ≤ x.at) × (x.at ≤ x.list.at + r.freshness) ×
      (¬ (x.certificate.serial ∈ x.list.serials))

-- Logs and monitors

-- what convicts a log before anybody: a promise and a head that it signed, the head as late as the promise is due or later, without the certificate
pub record Evidence (r : Rules) (w : World) (s : Sct) (h : TreeHead) : Type 0 where
  pub promised : Happened w (Signs (Promised s))
  pub headed : Happened w (Signs (Headed h))
  pub one_log : h.log ≡ s.log
  pub due : s.at + r.mmd ≤ h.at
  pub missing : ¬ (s.certificate ∈ h.entries)

-- what a monitor answers to a promise that is brought to it: the certificate is among the entries of the log's head that it has; the promise isn't due; it has evidence; or the log gave it no
-- head so late
pub data Answer (r : Rules) (w : World) (n : ℕ) (s : Sct) : Type 0 where
  Logged : s.certificate ∈ (w.seen n s.log).entries → Answer r w n s
  NotDue : w.now < s.at + r.mmd → Answer r w n s
  Convicts : Evidence r w s (w.seen n s.log) → Answer r w n s
  Silent : s.at + r.mmd ≤ w.now → (w.seen n s.log).at < s.at + r.mmd → Answer r w n s

pub record Logging (r : Rules) (w : World) : Type 0 where
  -- once a monitor has a head of a log that is as late as its promise is due, the certificate is in sight, or that promise and that head convict the log
  pub in_sight : (s : Sct) → Happened w (Signs (Promised s)) → (n : ℕ) → s.at + r.mmd ≤ (w.seen n s.log).at →
      (s.certificate ∈ (w.seen n s.log).entries) ⊎ Evidence r w s (w.seen n s.log)
  -- of an honest log it is in sight
  pub honest_in_sight : (s : Sct) → r.honest_log s.log ≡ true → Happened w (Signs (Promised s)) → (n : ℕ) → s.at + r.mmd ≤ (w.seen n s.log).at →
      s.certificate ∈ (w.seen n s.log).entries
  -- what came in sight stays so
  pub stays_in_sight : (k : ℕ) (v : World) → Steps r k w v → (n l : ℕ) → ((w.seen n l).at ≤ (v.seen n l).at) × Begins (w.seen n l).entries (v.seen n l).entries
  -- every head that an honest log may sign is one that every monitor may take
  pub head_is_taken : (h : TreeHead) → r.honest_log h.log ≡ true → MayHead r w h → (n : ℕ) → MayTake (apply w (Signs (Headed h))) n h
  -- a monitor has an answer to every promise
  pub answered : (s : Sct) → Happened w (Signs (Promised s)) → (n : ℕ) → Answer r w n s
  -- nothing convicts an honest log
  pub never_convicted : (s : Sct) (h : TreeHead) → r.honest_log s.log ≡ true → ¬ Evidence r w s h
  -- what stands in an honest log, some authority issued, and the log promised
  pub entries_were_issued : (l : ℕ) → r.honest_log l ≡ true → (c : Certificate) → c ∈ w.entries l →
      Happened w (Signs (Issued c)) × (s : Sct) × Happened w (Signs (Promised s)) × (s.log ≡ l) × (s.certificate ≡ c)

-- Revocation

pub record Revoking (r : Rules) (w : World) : Type 0 where
  -- an honest authority revokes serials that it drew, each once
  pub revoked_was_drawn : (g : Revocation) → r.honest_authority g.authority ≡ true → Happened w (Revokes g) → Drawn w g.authority g.serial × (g.at ≤ w.now)
  pub one_revocation : (g f : Revocation) → r.honest_authority g.authority ≡ true → Happened w (Revokes g) → Happened w (Revokes f) →
      f.authority ≡ g.authority → f.serial ≡ g.serial → f ≡ g
  -- what it revoked was accepted by nobody later than a list is fresh after that
  pub not_accepted : (x : Acceptance) → Happened w (Accepts x) → r.honest_authority x.certificate.issuer ≡ true →
      (g : Revocation) → Happened w (Revokes g) → g.authority ≡ x.certificate.issuer → g.serial ≡ x.certificate.serial → x.at ≤ g.at + r.freshness
  -- and then nobody can accept it
  pub not_acceptable : (g : Revocation) → r.honest_authority g.authority ≡ true → Happened w (Revokes g) → g.at + r.freshness < w.now →
      (x : Acceptance) → g.authority ≡ x.certificate.issuer → g.serial ≡ x.certificate.serial → ¬ MayAccept r w x
  -- its lists rise, and have just what was revoked no more than a lifetime ago; what was revoked at the list's own tick may have come after it
  pub lists_rise : (b : RevocationList) → r.honest_authority b.authority ≡ true → Happened w (Signs (Listed b)) → Rising b.serials
  pub listed_was_revoked : (b : RevocationList) → r.honest_authority b.authority ≡ true → Happened w (Signs (Listed b)) → (i : ℕ) → i ∈ b.serials →
      (g : Revocation) × Happened w (Revokes g) × (g.authority ≡ b.authority) × (g.serial ≡ i) × (g.at ≤ b.at) × (b.at ≤ g.at + r.lifetime)
  pub revoked_is_listed : (b : RevocationList) → r.honest_authority b.authority ≡ true → Happened w (Signs (Listed b)) →
      (g : Revocation) → Happened w (Revokes g) → g.authority ≡ b.authority → g.at < b.at → b.at ≤ g.at + r.lifetime → g.serial ∈ b.serials

-- What can be reached from here, so that no guarantee above is met by a world in which nothing happens

-- in seven events, of which the seventh is the acceptance, a certificate that was issued now
pub record Acceptable (r : Rules) (w : World) (a l m : ℕ) (name key : List ℕ) : Type 0 where
  pub before : World
  pub acceptance : Acceptance
  pub steps : Steps r 7 w (apply before (Accepts acceptance))
  pub issuer : acceptance.certificate.issuer ≡ a
  pub owner : acceptance.certificate.name ≡ name
  pub holder : acceptance.certificate.key ≡ key
  pub expiry : acceptance.certificate.expiry ≡ w.now + r.lifetime
  pub first : acceptance.first.log ≡ l
  pub second : acceptance.second.log ≡ m
  pub at : acceptance.at ≡ w.now

-- at a tick, a head of a log that a monitor has taken and in which all stands that the log has promised
pub record Shown (r : Rules) (w : World) (l n t : ℕ) : Type 0 where
  pub events : ℕ
  pub after : World
  pub steps : Steps r events w after
  pub now : after.now ≡ t
  pub at : (after.seen n l).at ≡ t
  pub all : (s : Sct) → Happened w (Signs (Promised s)) → s.log ≡ l → s.certificate ∈ (after.seen n l).entries

-- in two events, a list with a serial
pub record Withdrawn (r : Rules) (w : World) (a i : ℕ) : Type 0 where
  pub before : World
  pub list : RevocationList
  pub steps : Steps r 2 w (apply before (Signs (Listed list)))
  pub authority : list.authority ≡ a
  pub at : list.at ≡ w.now
  pub listed : i ∈ list.serials
  pub revoked : IsRevoked before a i

pub record Possible (r : Rules) (w : World) : Type 0 where
  -- an owner can come to have a certificate that is accepted, for any name and key, with an honest authority and any two logs
  pub can_be_accepted : (a l m : ℕ) (name key : List ℕ) → r.honest_authority a ≡ true → ¬ (l ≡ m) → Acceptable r w a l m name key
  -- an honest log can show a monitor, at any tick from now on, all that it has promised
  pub can_be_shown : (l n t : ℕ) → r.honest_log l ≡ true → w.now ≤ t → Shown r w l n t
  -- an honest authority can revoke what it drew
  pub can_be_revoked : (a i : ℕ) → r.honest_authority a ≡ true → Drawn w a i → ¬ IsRevoked w a i → Withdrawn r w a i

pub record Guarantees (r : Rules) (w : World) : Type 0 where
  pub issuing : Issuing r w
  pub accepting : Accepting r w
  pub logging : Logging r w
  pub revoking : Revoking r w
  pub possible : Possible r w

-- the main theorem
abbrev pub EveryWorldIsSafe : Type 0
EveryWorldIsSafe = (r : Rules) → 0 < r.mmd → (k : ℕ) (w : World) → Steps r k start w → Guarantees r w

-- so whatever was accepted comes in sight of every monitor in both logs that promised it, or convicts the log
abbrev pub AcceptedIsSeen : Type 0
AcceptedIsSeen = (r : Rules) → 0 < r.mmd → (k : ℕ) (w : World) → Steps r k start w → (x : Acceptance) → Happened w (Accepts x) → (s : Sct) → s ∈ x.first ∷ (x.second ∷ []) →
    (n : ℕ) → s.at + r.mmd ≤ (w.seen n s.log).at → (x.certificate ∈ (w.seen n s.log).entries) ⊎ Evidence r w s (w.seen n s.log)
