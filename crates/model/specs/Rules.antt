-- Who may do what, and when. Dishonest authorities and logs sign whatever they like. Assumes nothing.
use Rattle.std.specs.Prelude.{◌≡◌, ℕ, suc, ◌+◌, ◌≤◌, Bool, true, cond, ◌&&◌, List, [], ◌∷◌, ◌==◌, nat_le, nat_lt}
use Rattle.model.specs.Lists.{◌∈◌, Begins}
use Rattle.model.specs.Objects.{Certificate, Wish, Order, Response, Sct, TreeHead, RevocationList, Signed, Revocation, Acceptance}
use Rattle.model.specs.Objects.Signed.{Issued, Promised, Headed, Listed}
use Rattle.model.specs.World.{Sender, Event, World, Happened, apply}
use Rattle.model.specs.World.Sender.{Owner}
use Rattle.model.specs.World.Event.{Tick, Asks, Orders, Publishes, Signs, Merges, Takes, Revokes, Accepts}

pub record Rules : Type 0 where
  pub honest_authority : ℕ → Bool
  pub honest_log : ℕ → Bool
  -- the maximum merge delay: for how long a log may leave out what it promised
  pub mmd : ℕ
  -- for how long a revocation list is good
  pub freshness : ℕ
  -- for how long a certificate is
  pub lifetime : ℕ

-- Owners

abbrev pub wish_of : Certificate → Wish
wish_of c = record { name = c.name; key = c.key }

abbrev pub wish_in : Order → Wish
wish_in o = record { name = o.name; key = o.key }

abbrev pub wish_behind : Response → Wish
wish_behind p = record { name = p.name; key = p.key }

abbrev pub response_to : Order → Response
response_to o = record { name = o.name; key = o.key; serial = o.serial; nonce = o.nonce }

-- the owner of a name asked for a certificate with a key: by an order of its own that reached an authority, or by a message that went wherever the network took it
pub data Asked (w : World) (q : Wish) : Type 0 where
  by_order : (o : Order) → Happened w (Orders Owner o) → wish_in o ≡ q → Asked w q
  by_message : Happened w (Asks q) → Asked w q

-- Authorities

pub record Drawn (w : World) (a i : ℕ) : Type 0 where
  pub sender : Sender
  pub order : Order
  pub ordered : Happened w (Orders sender order)
  pub authority : order.authority ≡ a
  pub serial : order.serial ≡ i

abbrev pub IsIssued : World → ℕ → ℕ → Type 0
IsIssued w a i = (c : Certificate) × Happened w (Signs (Issued c)) × (c.issuer ≡ a) × (c.serial ≡ i)

abbrev pub IsRevoked : World → ℕ → ℕ → Type 0
IsRevoked w a i = (g : Revocation) × Happened w (Revokes g) × (g.authority ≡ a) × (g.serial ≡ i)

-- a certificate is what an order asks for
pub record Fulfils (o : Order) (c : Certificate) : Type 0 where
  pub authority : o.authority ≡ c.issuer
  pub name : o.name ≡ c.name
  pub key : o.key ≡ c.key
  pub serial : o.serial ≡ c.serial

-- it issues for an order to which the response is published; for a lifetime; once to a serial; and not if that was revoked
pub record MayIssue (r : Rules) (w : World) (c : Certificate) : Type 0 where
  pub sender : Sender
  pub order : Order
  pub ordered : Happened w (Orders sender order)
  pub published : Happened w (Publishes (response_to order))
  pub fulfils : Fulfils order c
  pub expiry : c.expiry ≡ w.now + r.lifetime
  pub not_revoked : ¬ IsRevoked w c.issuer c.serial
  pub once : ¬ IsIssued w c.issuer c.serial

-- it revokes a serial that it drew, now, and once
pub record MayRevoke (w : World) (g : Revocation) : Type 0 where
  pub drawn : Drawn w g.authority g.serial
  pub at : g.at ≡ w.now
  pub once : ¬ IsRevoked w g.authority g.serial

unfoldable pub insert : ℕ → List ℕ → List ℕ
insert n [] = n ∷ []
insert n (x ∷ xs) = cond (nat_lt n x) (n ∷ (x ∷ xs)) (cond (n == x) (x ∷ xs) (x ∷ insert n xs))

-- the serials that an authority revoked no more than a lifetime before a tick, rising
unfoldable pub serials_of : ℕ → ℕ → ℕ → List Revocation → List ℕ
serials_of lifetime a t [] = []
serials_of lifetime a t (g ∷ gs) =
    let others = serials_of lifetime a t gs in cond (g.authority == a && nat_le t (g.at + lifetime)) (insert g.serial others) others

-- it lists just these, now
pub record MayList (r : Rules) (w : World) (b : RevocationList) : Type 0 where
  pub at : b.at ≡ w.now
  pub serials : b.serials ≡ serials_of r.lifetime b.authority w.now w.revoked

-- Logs

-- a log promises a certificate that was issued, now
pub record MayPromise (w : World) (s : Sct) : Type 0 where
  pub issued : Happened w (Signs (Issued s.certificate))
  pub at : s.at ≡ w.now

-- it merges what it promised
pub record MayMerge (w : World) (l : ℕ) (c : Certificate) : Type 0 where
  pub sct : Sct
  pub promised : Happened w (Signs (Promised sct))
  pub log : sct.log ≡ l
  pub certificate : sct.certificate ≡ c

-- it signs a head of all its entries, now, and none while a promise is due that it hasn't kept
pub record MayHead (r : Rules) (w : World) (h : TreeHead) : Type 0 where
  pub at : h.at ≡ w.now
  pub entries : h.entries ≡ w.entries h.log
  pub kept : (s : Sct) → Happened w (Signs (Promised s)) → s.log ≡ h.log → s.at + r.mmd ≤ w.now → s.certificate ∈ h.entries

-- who is dishonest signs anything, at any tick
abbrev pub MaySign : Rules → World → Signed → Type 0
MaySign r w (Issued c) = r.honest_authority c.issuer ≡ true → MayIssue r w c
MaySign r w (Listed b) = r.honest_authority b.authority ≡ true → MayList r w b
MaySign r w (Promised s) = r.honest_log s.log ≡ true → MayPromise w s
MaySign r w (Headed h) = r.honest_log h.log ≡ true → MayHead r w h

-- Monitors

-- a head goes on from another: it isn't older, and its entries begin with the other's
pub record Extends (old new : TreeHead) : Type 0 where
  pub later : old.at ≤ new.at
  pub begins : Begins old.entries new.entries

-- a monitor takes a head that the log signed and that goes on from the one it has
pub record MayTake (w : World) (n : ℕ) (h : TreeHead) : Type 0 where
  pub signed : Happened w (Signs (Headed h))
  pub extends : Extends (w.seen n h.log) h

-- Relying parties

-- a promise that counts: of just this certificate, and not of the future
pub record Counts (w : World) (c : Certificate) (s : Sct) : Type 0 where
  pub promised : Happened w (Signs (Promised s))
  pub certificate : s.certificate ≡ c
  pub not_future : s.at ≤ w.now

-- a list that clears a certificate: of its issuer, not of the future, still fresh, and without its serial
pub record Clears (r : Rules) (w : World) (c : Certificate) (b : RevocationList) : Type 0 where
  pub listed : Happened w (Signs (Listed b))
  pub issuer : b.authority ≡ c.issuer
  pub not_future : b.at ≤ w.now
  pub fresh : w.now ≤ b.at + r.freshness
  pub not_revoked : ¬ (c.serial ∈ b.serials)

-- a relying party accepts, now, what was issued and has not expired, with the promises of two logs and a list that clears it
pub record MayAccept (r : Rules) (w : World) (x : Acceptance) : Type 0 where
  pub at : x.at ≡ w.now
  pub issued : Happened w (Signs (Issued x.certificate))
  pub not_expired : w.now ≤ x.certificate.expiry
  pub first : Counts w x.certificate x.first
  pub second : Counts w x.certificate x.second
  pub two_logs : ¬ (x.first.log ≡ x.second.log)
  pub cleared : Clears r w x.certificate x.list

-- All together: what may happen next. Time passes freely; anybody orders, and owners ask for what they like; an honest authority draws serials in rising order; only the owner of a name
-- publishes there, for keys that it asked for
abbrev pub May : Rules → World → Event → Type 0
May r w Tick = Unit {0}
May r w (Asks q) = Unit {0}
May r w (Orders s o) = r.honest_authority o.authority ≡ true → w.next o.authority ≤ o.serial
May r w (Publishes p) = Asked w (wish_behind p)
May r w (Signs s) = MaySign r w s
May r w (Merges l c) = r.honest_log l ≡ true → MayMerge w l c
May r w (Takes n h) = MayTake w n h
May r w (Revokes g) = r.honest_authority g.authority ≡ true → MayRevoke w g
May r w (Accepts x) = MayAccept r w x

-- so many events that may happen, from one world to another
pub data Steps (r : Rules) : ℕ → World → World → Type 0 where
  here : {w : World} → Steps r 0 w w
  onward : {k : ℕ} {w u : World} → Steps r k w u → (e : Event) → May r u e → Steps r (suc k) w (apply u e)
