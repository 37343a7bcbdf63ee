-- What stays as an event is added and texts are hashed, for all parties whose own the event isn't. Assumes nothing.
use Rattle.std.proofs.Common.{◌≡◌, ℕ, ◌≤◌, true, List, ◌∷◌, ◌++◌, sym, ap, ◌∙◌, subst, inl, inr, arith}
use mathlib.Core.List.Memᴰ
use Rattle.model.specs.Lists.{◌∈◌}
use Rattle.model.specs.Objects.{Certificate, Wish, Order, Sct, TreeHead, Revocation, Acceptance, RevocationList}
use Rattle.model.specs.Objects.Signed.{Issued, Promised, Headed, Listed}
use Rattle.model.specs.World.{Sender, Event, World}
use Rattle.model.specs.World.Sender.{Owner, Somebody}
use Rattle.model.specs.World.Event.{Tick, Asks, Orders, Publishes, Signs, Merges, Takes, Revokes, Accepts}
use Rattle.wire_theory.specs.Bytes.{Bytes}
use Rattle.parties.specs.RelyingParty.{Kept}
use Rattle.system.specs.Setup.{Setup}
use Rattle.system.specs.Runs.{Sealed, Place, State}
use Rattle.system.specs.Stands.{Within, SealedStands, PlaceStands, LogStands, SeenStands, AuthorityStands, ListStands, KeptStands, Heard, Stands}
use Rattle.system.proofs.Adding.{Among, sealed_more, place_more, kept_more, log_more, seen_more, list_more, authority_more}

pub also : {A : Type 0} {y : A} {xs : List A} (x : A) → x ∈ xs → x ∈ y ∷ xs
also x m = Memᴰ.tail m

pub among_more : {A : Type 0} (ys : List A) {xs : List A} (x : A) → x ∈ xs → x ∈ ys ++ xs
among_more ys x m = Memᴰ.append_right ys m

-- an event that is no promise of a log, and no certificate or revocation of an authority
pub record QuietLog (e : Event) (l : ℕ) : Type 0 where
  pub promise : (x : Sct) → x.log ≡ l → ¬ (Signs (Promised x) ≡ e)

pub record QuietAuthority (e : Event) (a : ℕ) : Type 0 where
  pub certificate : (c : Certificate) → c.issuer ≡ a → ¬ (Signs (Issued c) ≡ e)
  pub revocation : (g : Revocation) → g.authority ≡ a → ¬ (Revokes g ≡ e)

-- what stands of a state for a world, its tick and what was heard aside
pub record Parts (S : Setup) (s : State) (ts : List Bytes) (es : List Event) (clock : ℕ) (w : World) : Type 0 where
  pub signed : (x : Sealed) → x ∈ s.signed → SealedStands S ts es x
  pub wanted : (q : Wish) → q ∈ s.wanted → Asks q ∈ es
  pub published : (f : Place) → f ∈ s.published → PlaceStands S ts es f
  pub logs : (l : ℕ) → S.honest_log l ≡ true → ((x : Sct) → x.log ≡ l → Signs (Promised x) ∈ es → Signs (Promised x) ∈ w.past) → LogStands S ts es clock l (s.logs l) (w.entries l)
  pub authorities : (a : ℕ) → S.honest_authority a ≡ true → ((c : Certificate) → c.issuer ≡ a → Signs (Issued c) ∈ es → Signs (Issued c) ∈ w.past) →
      ((g : Revocation) → g.authority ≡ a → Revokes g ∈ es → Revokes g ∈ w.past) → AuthorityStands S es clock a (s.authorities a) (w.next a)
  pub seen : (n l : ℕ) → SeenStands S ts l (s.monitors n).name ((s.monitors n).logs l) (w.seen n l)
  pub lists : (k a : ℕ) → ListStands S es a ((s.relying k).lists a)
  pub kept : (k : ℕ) (x : Kept) → x ∈ (s.relying k).kept → KeptStands S ts es x

module _ (S : Setup) {s : State} {w : World} (st : Stands S s w) where
  pub parts_more : {us : List Bytes} {fs : List Event} {clock : ℕ} → Within S s.hashed us → Among w.past fs → s.clock ≤ clock → Parts S s us fs clock w
  parts_more m b c = record {
    signed = λ x i. sealed_more S m b x (st.signed x i);
    wanted = λ q i. b _ (st.wanted q i);
    published = λ f i. place_more S m b (st.published f i);
    logs = λ l honest quiet. log_more S m b c quiet (st.logs l honest);
    authorities = λ a honest issued revoked. authority_more S b c issued revoked (st.authorities a honest);
    seen = λ n l. seen_more S m (st.seen n l);
    lists = λ k a. list_more S b a ((s.relying k).lists a) (st.lists k a);
    kept = λ k x i. kept_more S m b (st.kept k x i);
  }

  -- an event that is quiet for a party is none of its own
  pub quiet_log : {e : Event} {l : ℕ} → QuietLog e l → (x : Sct) → x.log ≡ l → Signs (Promised x) ∈ e ∷ w.past → Signs (Promised x) ∈ w.past
  quiet_log q x p i = elim (Memᴰ.cases_cons i) [ inl z ↦ absurd (q.promise x p z) | inr j ↦ j ]

  pub quiet_issued : {e : Event} {a : ℕ} → QuietAuthority e a → (c : Certificate) → c.issuer ≡ a → Signs (Issued c) ∈ e ∷ w.past → Signs (Issued c) ∈ w.past
  quiet_issued q c p i = elim (Memᴰ.cases_cons i) [ inl z ↦ absurd (q.certificate c p z) | inr j ↦ j ]

  pub quiet_revoked : {e : Event} {a : ℕ} → QuietAuthority e a → (g : Revocation) → g.authority ≡ a → Revokes g ∈ e ∷ w.past → Revokes g ∈ w.past
  quiet_revoked q g p i = elim (Memᴰ.cases_cons i) [ inl z ↦ absurd (q.revocation g p z) | inr j ↦ j ]

-- Who is quiet

clash : {A : Type 0} → ◌≡◌ {A = ℕ} 0 1 → A
clash z = absurd (omega arith)

pub tick_log : (l : ℕ) → QuietLog Tick l
tick_log l = record { promise = λ x p z. clash cc }

pub tick_authority : (a : ℕ) → QuietAuthority Tick a
tick_authority a = record { certificate = λ c p z. clash cc; revocation = λ g p z. clash cc }

pub asks_log : (q : Wish) (l : ℕ) → QuietLog (Asks q) l
asks_log q l = record { promise = λ x p z. clash cc }

pub asks_authority : (q : Wish) (a : ℕ) → QuietAuthority (Asks q) a
asks_authority q a = record { certificate = λ c p z. clash cc; revocation = λ g p z. clash cc }

pub orders_log : (by : Sender) (o : Order) (l : ℕ) → QuietLog (Orders by o) l
orders_log by o l = record { promise = λ x p z. clash cc }

pub orders_authority : (by : Sender) (o : Order) (a : ℕ) → QuietAuthority (Orders by o) a
orders_authority by o a = record { certificate = λ c p z. clash cc; revocation = λ g p z. clash cc }

pub publishes_log : (r : _) (l : ℕ) → QuietLog (Publishes r) l
publishes_log r l = record { promise = λ x p z. clash cc }

pub publishes_authority : (r : _) (a : ℕ) → QuietAuthority (Publishes r) a
publishes_authority r a = record { certificate = λ c p z. clash cc; revocation = λ g p z. clash cc }

pub merges_log : (k : ℕ) (c : Certificate) (l : ℕ) → QuietLog (Merges k c) l
merges_log k c l = record { promise = λ x p z. clash cc }

pub merges_authority : (k : ℕ) (d : Certificate) (a : ℕ) → QuietAuthority (Merges k d) a
merges_authority k d a = record { certificate = λ c p z. clash cc; revocation = λ g p z. clash cc }

pub takes_log : (n : ℕ) (h : TreeHead) (l : ℕ) → QuietLog (Takes n h) l
takes_log n h l = record { promise = λ x p z. clash cc }

pub takes_authority : (n : ℕ) (h : TreeHead) (a : ℕ) → QuietAuthority (Takes n h) a
takes_authority n h a = record { certificate = λ c p z. clash cc; revocation = λ g p z. clash cc }

pub accepts_log : (y : Acceptance) (l : ℕ) → QuietLog (Accepts y) l
accepts_log y l = record { promise = λ x p z. clash cc }

pub accepts_authority : (y : Acceptance) (a : ℕ) → QuietAuthority (Accepts y) a
accepts_authority y a = record { certificate = λ c p z. clash cc; revocation = λ g p z. clash cc }

pub revokes_log : (g : Revocation) (l : ℕ) → QuietLog (Revokes g) l
revokes_log g l = record { promise = λ x p z. clash cc }

pub revokes_authority : (f : Revocation) (a : ℕ) → ¬ (f.authority ≡ a) → QuietAuthority (Revokes f) a
revokes_authority f a ne = record { certificate = λ c p z. clash cc; revocation = λ g p z. ne (let q : g ≡ f = cc in ap (λ (x : Revocation). x.authority) (sym q) ∙ p) }

pub issued_log : (c : Certificate) (l : ℕ) → QuietLog (Signs (Issued c)) l
issued_log c l = record { promise = λ x p z. clash cc }

pub issued_authority : (d : Certificate) (a : ℕ) → ¬ (d.issuer ≡ a) → QuietAuthority (Signs (Issued d)) a
issued_authority d a ne = record { certificate = λ c p z. ne (let q : c ≡ d = cc in ap (λ (x : Certificate). x.issuer) (sym q) ∙ p); revocation = λ g p z. clash cc }

pub promised_log : (y : Sct) (l : ℕ) → ¬ (y.log ≡ l) → QuietLog (Signs (Promised y)) l
promised_log y l ne = record { promise = λ x p z. ne (let q : x ≡ y = cc in ap (λ (u : Sct). u.log) (sym q) ∙ p) }

pub promised_authority : (y : Sct) (a : ℕ) → QuietAuthority (Signs (Promised y)) a
promised_authority y a = record { certificate = λ c p z. clash cc; revocation = λ g p z. clash cc }

pub headed_log : (h : TreeHead) (l : ℕ) → QuietLog (Signs (Headed h)) l
headed_log h l = record { promise = λ x p z. clash cc }

pub headed_authority : (h : TreeHead) (a : ℕ) → QuietAuthority (Signs (Headed h)) a
headed_authority h a = record { certificate = λ c p z. clash cc; revocation = λ g p z. clash cc }

pub listed_log : (b : RevocationList) (l : ℕ) → QuietLog (Signs (Listed b)) l
listed_log b l = record { promise = λ x p z. clash cc }

pub listed_authority : (b : RevocationList) (a : ℕ) → QuietAuthority (Signs (Listed b)) a
listed_authority b a = record { certificate = λ c p z. clash cc; revocation = λ g p z. clash cc }

-- What was heard stays heard

pub record Grown (s s' : State) : Type 0 where
  pub wanted : (q : Wish) → q ∈ s.wanted → q ∈ s'.wanted
  pub published : (f : Place) → f ∈ s.published → f ∈ s'.published
  pub signed : (x : Sealed) → x ∈ s.signed → x ∈ s'.signed

pub heard_more : (S : Setup) {s s' : State} → Grown s s' → (e : Event) → Heard S s e → Heard S s' e
heard_more S g Tick h = h
heard_more S g (Asks q) h = g.wanted q h
heard_more S g (Orders Owner o) h = g.wanted _ h
heard_more S g (Orders Somebody o) h = h
heard_more S g (Publishes p) h = g.published _ h
heard_more S g (Signs (Issued c)) h = λ honest. g.signed _ (h honest)
heard_more S g (Signs (Promised x)) h = h
heard_more S g (Signs (Headed x)) h = h
heard_more S g (Signs (Listed b)) h = h
heard_more S g (Merges l c) h = h
heard_more S g (Takes n x) h = h
heard_more S g (Revokes x) h = h
heard_more S g (Accepts x) h = h

pub heard_with : (S : Setup) {s : State} (s' : State) {w : World} → Grown s s' → Stands S s w → (e : Event) → Heard S s' e → (f : Event) → f ∈ e ∷ w.past → Heard S s' f
heard_with S s' g st e h f m = elim (Memᴰ.cases_cons m) [ inl q ↦ subst (λ (x : Event). Heard S s' x) (sym q) h | inr n ↦ heard_more S g f (st.heard f n) ]

-- nothing of a state that is heard of changed
pub unchanged : (s s' : State) → s.wanted ≡ s'.wanted → s.published ≡ s'.published → s.signed ≡ s'.signed → Grown s s'
unchanged s s' p q r = record
    { wanted = λ x m. subst (λ (xs : List Wish). x ∈ xs) p m; published = λ x m. subst (λ (xs : List Place). x ∈ xs) q m; signed = λ x m. subst (λ (xs : List Sealed). x ∈ xs) r m }
