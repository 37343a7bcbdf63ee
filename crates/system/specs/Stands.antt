-- For which worlds of the model a state of all parties stands; and the theorem: every run reaches a state that stands for a world that the model reaches, or two texts that were hashed in it
-- collide. Assumes nothing.
use Rattle.std.specs.Prelude.{◌≡◌, ℕ, ◌^◌, ◌<◌, ◌≤◌, true, false, ◌⊎◌, List, length, Some, None, Option}
use Rattle.model.specs.Lists.{◌∈◌}
use Rattle.model.specs.Objects.{Certificate, Wish, Order, Response, Sct, TreeHead, RevocationList, Revocation, Acceptance}
use Rattle.model.specs.Objects.Signed.{Issued, Promised, Headed, Listed}
use Rattle.model.specs.World.{Event, World, start}
use Rattle.model.specs.World.Sender.{Owner, Somebody}
use Rattle.model.specs.World.Event.{Tick, Asks, Orders, Publishes, Signs, Merges, Takes, Revokes, Accepts}
use Rattle.model.specs.Rules.{Steps, wish_in}
use Rattle.wire_theory.specs.Bytes.{Bytes}
use Rattle.wire_theory.specs.Messages.{SignedSct, SignedHead, SignedList}
use Rattle.parties.specs.Coding.{leaf_text, leaf_of, leaves_of, root_of, root_texts_of, right_sct, right_head}
use Rattle.parties.specs.Steps.{too_large}
use Rattle.parties.specs.Evidence.{gives_root}
use Rattle.parties.specs.Authority.{Account, AuthorityView, next_serial, account_of}
use Rattle.parties.specs.Log.{LogView}
use Rattle.parties.specs.Monitor.{Seen, tick_of, with_name}
use Rattle.parties.specs.RelyingParty.{Kept}
use Rattle.system.specs.Setup.{Setup, Sound, Collides, rules_of}
use Rattle.system.specs.Runs.{Sealed, Place, State, Run}
use Rattle.system.specs.Runs.Sealed.{SealedCertificate, SealedSct, SealedHead, SealedList}

-- what digests are of

abbrev pub sct_of : SignedSct → Certificate → Sct
sct_of p c = record { log = p.log; certificate = c; at = p.at }

abbrev pub head_of : SignedHead → List Certificate → TreeHead
head_of h cs = record { log = h.log; at = h.at; entries = cs }

abbrev pub list_of : SignedList → RevocationList
list_of b = record { authority = b.authority; at = b.at; serials = b.serials }

abbrev pub acceptance_of : Kept → Acceptance
acceptance_of k = record { certificate = k.certificate; first = sct_of k.first k.certificate; second = sct_of k.second k.certificate; list = list_of k.list; at = k.at }

abbrev pub order_of : ℕ → ℕ → Account → Order
order_of a serial x = record { authority = a; name = x.name; key = x.key; serial = serial; nonce = x.nonce }

module _ (S : Setup) where
  -- a certificate that was read, whose text was hashed
  pub record Texted (ts : List Bytes) (c : Certificate) : Type 0 where
    pub readable : S.readable c ≡ true
    pub text : leaf_text S.coding c ∈ ts

  abbrev pub AllTexted : List Bytes → List Certificate → Type 0
  AllTexted ts cs = (c : Certificate) → c ∈ cs → Texted ts c

  abbrev pub Within : List Bytes → List Bytes → Type 0
  Within ts us = (t : Bytes) → t ∈ ts → t ∈ us

  -- a promise, and a head, of the world behind what was signed
  pub record SctStands (ts : List Bytes) (es : List Event) (p : SignedSct) : Type 0 where
    pub certificate : Certificate
    pub promised : Signs (Promised (sct_of p certificate)) ∈ es
    pub digest : leaf_of S.coding certificate ≡ p.digest
    pub texted : Texted ts certificate

  pub record HeadStands (ts : List Bytes) (es : List Event) (h : SignedHead) : Type 0 where
    pub entries : List Certificate
    pub headed : Signs (Headed (head_of h entries)) ∈ es
    pub count : length entries ≡ h.count
    pub root : root_of S.coding (leaves_of S.coding entries) ≡ h.root
    pub texted : AllTexted ts entries
    pub texts : Within (root_texts_of S.coding (leaves_of S.coding entries)) ts

  abbrev pub SealedStands : List Bytes → List Event → Sealed → Type 0
  SealedStands ts es (SealedCertificate c) = Signs (Issued c) ∈ es
  SealedStands ts es (SealedSct p) = SctStands ts es p
  SealedStands ts es (SealedHead h) = HeadStands ts es h
  SealedStands ts es (SealedList b) = Signs (Listed (list_of b)) ∈ es

  pub record PlaceStands (ts : List Bytes) (es : List Event) (f : Place) : Type 0 where
    pub response : Response
    pub published : Publishes response ∈ es
    pub name : response.name ≡ f.name
    pub found : S.coding.hash (S.coding.response_text response.serial response.nonce response.key) ≡ f.found
    pub serial : response.serial < 2 ^ 64
    pub nonce : length response.nonce ≡ 16
    pub key : length response.key ≡ 32
    pub text : S.coding.response_text response.serial response.nonce response.key ∈ ts

  -- a log: its entries are the world's; what is pending it promised at its tick; and every promise is kept or pending
  pub record LogStands (ts : List Bytes) (es : List Event) (clock l : ℕ) (v : LogView) (entries : List Certificate) : Type 0 where
    pub number : v.number ≡ l
    pub early : v.now ≤ clock
    pub same : entries ≡ v.merged
    pub merged : AllTexted ts v.merged
    pub texted : AllTexted ts v.pending
    pub owed : (c : Certificate) → c ∈ v.pending → Signs (Promised (record { log = l; certificate = c; at = v.now })) ∈ es
    pub kept : (x : Sct) → x.log ≡ l → Signs (Promised x) ∈ es → (x.certificate ∈ v.merged) ⊎ ((x.certificate ∈ v.pending) × (x.at ≡ v.now))

  -- a head that a monitor keeps: of that log, verified, and with the root of its digests
  pub record HeadKept (l : ℕ) (x : Seen) (g : SignedHead) : Type 0 where
    pub log : g.log ≡ l
    pub known : S.coding.knows_log l ≡ true
    pub right : right_head S.coding g ≡ true
    pub gives : gives_root S.coding x.digests g ≡ true
    pub small : too_large g.at ≡ false

  -- what a monitor has of a log
  pub record SeenStands (ts : List Bytes) (l : ℕ) (name : Bytes) (x : Seen) (h : TreeHead) : Type 0 where
    pub kept : (g : SignedHead) → x.head ≡ Some g → HeadKept l x g
    pub at : h.at ≡ tick_of x.head
    pub digests : x.digests ≡ leaves_of S.coding h.entries
    pub texted : AllTexted ts h.entries
    pub found : x.found ≡ with_name name h.entries

  -- an authority: its accounts are the orders that it got
  pub record AuthorityStands (es : List Event) (clock a : ℕ) (v : AuthorityView) (next : ℕ) : Type 0 where
    pub number : v.number ≡ a
    pub early : v.now ≤ clock
    pub drawn : next ≡ next_serial v
    pub ordered : (i : ℕ) (x : Account) → account_of i v.accounts ≡ Some x → (Orders Somebody (order_of a i x) ∈ es) × (length x.nonce ≡ 16) × (length x.key ≡ 32) × (i < 2 ^ 64)
    pub issued : (c : Certificate) → c.issuer ≡ a → Signs (Issued c) ∈ es → (x : Account) × (account_of c.serial v.accounts ≡ Some x) × (x.issued ≡ true)
    pub revoked : (g : Revocation) → g.authority ≡ a → Revokes g ∈ es → (x : Account) × (account_of g.serial v.accounts ≡ Some x) × (x.revoked ≡ Some g.at)
    pub happened : (i : ℕ) (x : Account) (t : ℕ) → account_of i v.accounts ≡ Some x → x.revoked ≡ Some t → Revokes (record { authority = a; serial = i; at = t }) ∈ es

  abbrev pub ListStands : List Event → ℕ → Option SignedList → Type 0
  ListStands es a None = Unit {0}
  ListStands es a (Some b) = (Signs (Listed (list_of b)) ∈ es) × (b.authority ≡ a)

  -- a promise that a relying party keeps: verified, and for the certificate
  pub record SctKept (c : Certificate) (p : SignedSct) : Type 0 where
    pub known : S.coding.knows_log p.log ≡ true
    pub right : right_sct S.coding p ≡ true
    pub digest : p.digest ≡ leaf_of S.coding c
    pub small : too_large p.at ≡ false

  pub record KeptStands (ts : List Bytes) (es : List Event) (k : Kept) : Type 0 where
    pub accepted : Accepts (acceptance_of k) ∈ es
    pub texted : Texted ts k.certificate
    pub first : SctKept k.certificate k.first
    pub second : SctKept k.certificate k.second

  -- nothing is made up: what has happened in the world was done in the run; of dishonest signers it may be anything
  abbrev pub Heard : State → Event → Type 0
  Heard s Tick = Unit {0}
  Heard s (Asks q) = q ∈ s.wanted
  Heard s (Orders Owner o) = wish_in o ∈ s.wanted
  Heard s (Orders Somebody o) = Unit {0}
  Heard s (Publishes p) = record { name = p.name; found = S.coding.hash (S.coding.response_text p.serial p.nonce p.key) } ∈ s.published
  Heard s (Signs (Issued c)) = S.honest_authority c.issuer ≡ true → SealedCertificate c ∈ s.signed
  Heard s (Signs (Promised x)) = Unit {0}
  Heard s (Signs (Headed h)) = Unit {0}
  Heard s (Signs (Listed b)) = Unit {0}
  Heard s (Merges l c) = Unit {0}
  Heard s (Takes n h) = Unit {0}
  Heard s (Revokes g) = Unit {0}
  Heard s (Accepts x) = Unit {0}

  pub record Stands (s : State) (w : World) : Type 0 where
    pub now : w.now ≡ s.clock
    pub signed : (x : Sealed) → x ∈ s.signed → SealedStands s.hashed w.past x
    pub wanted : (q : Wish) → q ∈ s.wanted → Asks q ∈ w.past
    pub published : (f : Place) → f ∈ s.published → PlaceStands s.hashed w.past f
    pub logs : (l : ℕ) → S.honest_log l ≡ true → LogStands s.hashed w.past s.clock l (s.logs l) (w.entries l)
    pub authorities : (a : ℕ) → S.honest_authority a ≡ true → AuthorityStands w.past s.clock a (s.authorities a) (w.next a)
    pub seen : (n l : ℕ) → SeenStands s.hashed l (s.monitors n).name ((s.monitors n).logs l) (w.seen n l)
    pub lists : (k a : ℕ) → ListStands w.past a ((s.relying k).lists a)
    pub kept : (k : ℕ) (x : Kept) → x ∈ (s.relying k).kept → KeptStands s.hashed w.past x
    pub heard : (e : Event) → e ∈ w.past → Heard s e

  -- a world that the model reaches, for which the state stands
  pub record Reaches (s : State) : Type 0 where
    pub events : ℕ
    pub world : World
    pub run : Steps (rules_of S) events start world
    pub stands : Stands s world

abbrev pub Refines : Type 0
Refines = (S : Setup) → Sound S → (s : State) → Run S s → Reaches S s ⊎ Collides S s.hashed
