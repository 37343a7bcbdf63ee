-- What can happen, and what a world is: all that has happened, and what the parties have by it. Assumes nothing.
use Rattle.std.specs.Prelude.{ℕ, suc, ◌+◌, cond, List, [], ◌∷◌, ◌++◌, ◌==◌}
use Rattle.model.specs.Lists.{◌∈◌}
use Rattle.model.specs.Objects.{Wish, Order, Response, Signed, Certificate, TreeHead, Revocation, Acceptance}

-- who sends an order: the owner of the name, or somebody else
pub data Sender : Type 0 where
  Owner : Sender
  Somebody : Sender

-- whatever happens: time passes; the owner of a name asks for a certificate, whether or not an authority hears of it; an authority gets an order, and draws a challenge for it;
-- the owner of a name publishes a response there; an authority or a log signs; a log merges a certificate into its entries; a monitor takes a head; an authority revokes; a relying party accepts
pub data Event : Type 0 where
  Tick : Event
  Asks : Wish → Event
  Orders : Sender → Order → Event
  Publishes : Response → Event
  Signs : Signed → Event
  Merges : ℕ → Certificate → Event
  Takes : ℕ → TreeHead → Event
  Revokes : Revocation → Event
  Accepts : Acceptance → Event

pub record World : Type 0 where
  -- all that has happened, the latest first
  pub past : List Event
  pub now : ℕ
  -- an authority's lowest serial that is not drawn yet
  pub next : ℕ → ℕ
  -- what a log has merged, oldest first. It means something of honest logs; what a dishonest one shows stands in its heads alone
  pub entries : ℕ → List Certificate
  -- the last head of a log that a monitor took
  pub seen : ℕ → ℕ → TreeHead
  -- by all authorities, the latest first
  pub revoked : List Revocation

-- what a monitor has of a log before it has taken a head of it
abbrev pub no_head : ℕ → TreeHead
no_head l = record { log = l; at = 0; entries = [] }

abbrev pub start : World
start = record { past = []; now = 1; next = λ a. 1; entries = λ l. []; seen = λ n l. no_head l; revoked = [] }

-- a function with another value at one argument
abbrev pub update : {A : Type 0} → ℕ → A → (ℕ → A) → ℕ → A
update i x f j = cond (j == i) x (f j)

-- an event that changes nothing but the past
abbrev pub noted : World → Event → World
noted w e = record { past = e ∷ w.past; now = w.now; next = w.next; entries = w.entries; seen = w.seen; revoked = w.revoked }

-- what an event makes of a world
abbrev pub apply : World → Event → World
apply w Tick = record { past = Tick ∷ w.past; now = w.now + 1; next = w.next; entries = w.entries; seen = w.seen; revoked = w.revoked }
apply w (Asks q) = noted w (Asks q)
apply w (Orders s o) =
    record { past = Orders s o ∷ w.past; now = w.now; next = update o.authority (suc o.serial) w.next; entries = w.entries; seen = w.seen; revoked = w.revoked }
apply w (Publishes p) = noted w (Publishes p)
apply w (Signs s) = noted w (Signs s)
apply w (Merges l c) =
    record { past = Merges l c ∷ w.past; now = w.now; next = w.next; entries = update l (w.entries l ++ (c ∷ [])) w.entries; seen = w.seen; revoked = w.revoked }
apply w (Takes n h) =
    record { past = Takes n h ∷ w.past; now = w.now; next = w.next; entries = w.entries; seen = update n (update h.log h (w.seen n)) w.seen; revoked = w.revoked }
apply w (Revokes g) = record { past = Revokes g ∷ w.past; now = w.now; next = w.next; entries = w.entries; seen = w.seen; revoked = g ∷ w.revoked }
apply w (Accepts x) = noted w (Accepts x)

-- this has happened
abbrev pub Happened : World → Event → Type 0
Happened w e = e ∈ w.past
