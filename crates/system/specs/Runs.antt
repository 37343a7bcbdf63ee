-- All parties together: any interleaving of ticks and of any messages to any honest party. Who is dishonest has no moves: what it signs just appears in messages. The one premise is the
-- law of signatures: what verifies under an honest signer's key was signed by it before. Assumes nothing.
use Rattle.std.specs.Prelude.{◌≡◌, ℕ, ◌+◌, ◌^◌, ◌<◌, Bool, true, false, cond, List, [], ◌∷◌, ◌++◌, map, length, Some, None, Option, ◌==◌}
use Rattle.model.specs.Lists.{◌∈◌}
use Rattle.model.specs.Objects.{Certificate, Wish, Response}
use Rattle.model.specs.World.{update}
use Rattle.wire_theory.specs.Bytes.{Bytes}
use Rattle.wire_theory.specs.Messages.{Message, MonitorAnswer, SignedSct, SignedHead, SignedList}
use Rattle.wire_theory.specs.Messages.Message.{certificate, sct, head, list, order, challenge, published, submit, get_head, get_inclusion, get_consistency, get_entries, revoke, get_list, bring, present, inclusion, consistency, entries, answer, accepted, refused}
use Rattle.parties.specs.Coding.{leaf_text, leaves_of, root_texts_of, right_certificate, right_sct, right_head, right_list}
use Rattle.parties.specs.Steps.{Step}
use Rattle.parties.specs.Authority.{Account, AuthorityView, new_authority, account_of, on_order, on_published, on_revoke, withdraw, on_get_list}
use Rattle.parties.specs.Authority
use Rattle.parties.specs.Log.{LogView, new_log, on_submit, on_get_head}
use Rattle.parties.specs.Log
use Rattle.parties.specs.Monitor.{Seen, MonitorView, new_monitor, Fetched, Looked, Brought, on_fetched, on_bring, asking, answer_by, digests_with}
use Rattle.parties.specs.Monitor
use Rattle.parties.specs.RelyingParty.{Kept, RelyingView, new_relying, on_list, on_present, Which, on_answer}
use Rattle.parties.specs.RelyingParty
use Rattle.system.specs.Setup.{Setup}

-- what honest parties have signed
pub data Sealed : Type 0 where
  SealedCertificate : Certificate → Sealed
  SealedSct : SignedSct → Sealed
  SealedHead : SignedHead → Sealed
  SealedList : SignedList → Sealed

-- bytes that stand where only the owner of a name can publish
pub record Place : Type 0 where
  pub name : Bytes
  pub found : Bytes

-- wanted: what owners asked for. published: what they published. signed: by honest parties so far. hashed: all texts that were hashed for what was done
pub record State : Type 0 where
  pub clock : ℕ
  pub authorities : ℕ → AuthorityView
  pub logs : ℕ → LogView
  pub monitors : ℕ → MonitorView
  pub relying : ℕ → RelyingView
  pub wanted : List Wish
  pub published : List Place
  pub signed : List Sealed
  pub hashed : List Bytes

-- State with one part changed

abbrev pub with_authority : ℕ → AuthorityView → State → State
with_authority a v s = record { clock = s.clock; authorities = update a v s.authorities; logs = s.logs; monitors = s.monitors; relying = s.relying; wanted = s.wanted; published = s.published; signed = s.signed; hashed = s.hashed }

abbrev pub with_log : ℕ → LogView → State → State
with_log l v s = record { clock = s.clock; authorities = s.authorities; logs = update l v s.logs; monitors = s.monitors; relying = s.relying; wanted = s.wanted; published = s.published; signed = s.signed; hashed = s.hashed }

abbrev pub with_monitor : ℕ → MonitorView → State → State
with_monitor n v s = record { clock = s.clock; authorities = s.authorities; logs = s.logs; monitors = update n v s.monitors; relying = s.relying; wanted = s.wanted; published = s.published; signed = s.signed; hashed = s.hashed }

abbrev pub with_relying : ℕ → RelyingView → State → State
with_relying k v s = record { clock = s.clock; authorities = s.authorities; logs = s.logs; monitors = s.monitors; relying = update k v s.relying; wanted = s.wanted; published = s.published; signed = s.signed; hashed = s.hashed }

abbrev pub wanting : Wish → State → State
wanting q s = record { clock = s.clock; authorities = s.authorities; logs = s.logs; monitors = s.monitors; relying = s.relying; wanted = q ∷ s.wanted; published = s.published; signed = s.signed; hashed = s.hashed }

abbrev pub publishing : Place → State → State
publishing f s = record { clock = s.clock; authorities = s.authorities; logs = s.logs; monitors = s.monitors; relying = s.relying; wanted = s.wanted; published = f ∷ s.published; signed = s.signed; hashed = s.hashed }

abbrev pub signing : List Sealed → State → State
signing xs s = record { clock = s.clock; authorities = s.authorities; logs = s.logs; monitors = s.monitors; relying = s.relying; wanted = s.wanted; published = s.published; signed = xs ++ s.signed; hashed = s.hashed }

abbrev pub hashing : List Bytes → State → State
hashing ts s = record { clock = s.clock; authorities = s.authorities; logs = s.logs; monitors = s.monitors; relying = s.relying; wanted = s.wanted; published = s.published; signed = s.signed; hashed = ts ++ s.hashed }

abbrev pub passed : State → State
passed s = record { clock = s.clock + 1; authorities = s.authorities; logs = s.logs; monitors = s.monitors; relying = s.relying; wanted = s.wanted; published = s.published; signed = s.signed; hashed = s.hashed }

-- what is signed in a message that an authority or a log sends
abbrev pub signed_in : Message → List Sealed
signed_in (certificate c) = SealedCertificate c ∷ []
signed_in (sct p) = SealedSct p ∷ []
signed_in (head h) = SealedHead h ∷ []
signed_in (list b) = SealedList b ∷ []
signed_in (order name key) = []
signed_in (challenge serial nonce) = []
signed_in (published serial) = []
signed_in (submit c) = []
signed_in get_head = []
signed_in (get_inclusion place count) = []
signed_in (get_consistency from to) = []
signed_in (get_entries from to) = []
signed_in (revoke serial seal) = []
signed_in get_list = []
signed_in (bring c p) = []
signed_in (present c p q) = []
signed_in (inclusion path) = []
signed_in (consistency path) = []
signed_in (entries cs) = []
signed_in (answer a) = []
signed_in accepted = []
signed_in (refused n) = []

unfoldable pub signed_in_all : List Message → List Sealed
signed_in_all [] = []
signed_in_all (m ∷ ms) = signed_in m ++ signed_in_all ms

abbrev pub is_refused : Message → Bool
is_refused (certificate c) = false
is_refused (sct p) = false
is_refused (head h) = false
is_refused (list b) = false
is_refused (order name key) = false
is_refused (challenge serial nonce) = false
is_refused (published serial) = false
is_refused (submit c) = false
is_refused get_head = false
is_refused (get_inclusion place count) = false
is_refused (get_consistency from to) = false
is_refused (get_entries from to) = false
is_refused (revoke serial seal) = false
is_refused get_list = false
is_refused (bring c p) = false
is_refused (present c p q) = false
is_refused (inclusion path) = false
is_refused (consistency path) = false
is_refused (entries cs) = false
is_refused (answer a) = false
is_refused accepted = false
is_refused (refused n) = true

-- what is hashed for a message that is refused counts for nothing
abbrev pub hashed_for : Message → List Bytes → List Bytes
hashed_for m ts = cond (is_refused m) [] ts

module _ (S : Setup) where
  -- what an authority and a log do with a message
  abbrev pub authority_does : ℕ → Step AuthorityView → List Bytes → State → State
  authority_does a x ts s = hashing (hashed_for x.answer ts) (signing (signed_in x.answer) (with_authority a x.view s))

  abbrev pub log_does : ℕ → Step LogView → List Bytes → State → State
  log_does l x ts s = hashing (hashed_for x.answer ts) (signing (signed_in x.answer) (with_log l x.view s))

  abbrev pub relying_does : ℕ → Step RelyingView → List Bytes → State → State
  relying_does k x ts s = hashing (hashed_for x.answer ts) (with_relying k x.view s)

  -- the texts that are hashed for a challenge's response, by the authority that looks at it
  abbrev pub response_texts : ℕ → Option Account → List Bytes
  response_texts serial None = []
  response_texts serial (Some x) = S.coding.response_text serial x.nonce x.key ∷ []

  -- as a head is taken
  abbrev pub taking_texts : Seen → Fetched → List Bytes
  taking_texts x f = map (leaf_text S.coding) f.new ++ root_texts_of S.coding (digests_with S.coding x f.new)

  abbrev pub unless_fault : Option ℕ → List Bytes → List Bytes
  unless_fault None ts = ts
  unless_fault (Some n) ts = []

  -- as a promise is brought for which the log is asked
  abbrev pub asking_texts : SignedSct → MonitorView → Option Fetched → List Bytes
  asking_texts p v None = []
  asking_texts p v (Some f) = cond (f.head.log == p.log) (unless_fault (on_fetched S.coding f v).fault (taking_texts (v.logs f.head.log) f)) []

  abbrev pub bringing_texts : SignedSct → MonitorView → Option Fetched → Option MonitorAnswer → List Bytes
  bringing_texts p v came (Some a) = []
  bringing_texts p v came None = asking_texts p (asking p.log v) came

  -- a party handles messages at its own tick, and comes to the clock's by waking. A log that is asked for proofs or entries changes nothing, so that is no move
  pub data Move : Type 0 where
    Passes : Move
    Want : Wish → Move
    Publish : Response → Move
    WakeAuthority : ℕ → Move
    Order : ℕ → Bytes → Bytes → Move
    Published : ℕ → ℕ → Option Bytes → Move
    Revoke : ℕ → ℕ → Bytes → Move
    Withdraw : ℕ → ℕ → Move
    GetList : ℕ → Move
    WakeLog : ℕ → Move
    Submit : ℕ → Certificate → Move
    GetHead : ℕ → Move
    WakeMonitor : ℕ → Move
    Take : ℕ → Fetched → Move
    Bring : ℕ → Certificate → SignedSct → Option Fetched → Move
    WakeRelying : ℕ → Move
    GiveList : ℕ → SignedList → Move
    Present : ℕ → Certificate → SignedSct → SignedSct → Move
    Settle : ℕ → ℕ → Which → MonitorAnswer → Move

  abbrev pub step : State → Move → State
  step s Passes = passed s
  step s (Want q) = wanting q s
  step s (Publish p) = let t = S.coding.response_text p.serial p.nonce p.key in publishing (record { name = p.name; found = S.coding.hash t }) (hashing (t ∷ []) s)
  step s (WakeAuthority a) = let x = Authority.on_tick S.coding S.settings s.clock (s.authorities a) in signing (signed_in_all x.sends) (with_authority a x.view s)
  step s (Order a name key) = authority_does a (on_order name key (s.authorities a)) [] s
  step s (Published a serial found) =
      authority_does a (on_published S.coding S.settings serial found (s.authorities a)) (response_texts serial (account_of serial (s.authorities a).accounts)) s
  step s (Revoke a serial seal) = authority_does a (on_revoke S.coding S.settings serial seal (s.authorities a)) [] s
  step s (Withdraw a serial) = authority_does a (withdraw S.coding S.settings serial (s.authorities a)) [] s
  step s (GetList a) = authority_does a (on_get_list S.coding S.settings (s.authorities a)) [] s
  step s (WakeLog l) = with_log l (Log.on_tick S.coding s.clock (s.logs l)).view s
  step s (Submit l c) = log_does l (on_submit S.coding c (s.logs l)) (leaf_text S.coding c ∷ []) s
  step s (GetHead l) = log_does l (on_get_head S.coding (s.logs l)) (root_texts_of S.coding (leaves_of S.coding (s.logs l).merged)) s
  step s (WakeMonitor n) = with_monitor n (Monitor.on_tick s.clock (s.monitors n)) s
  step s (Take n f) =
      let x = on_fetched S.coding f (s.monitors n) in
      hashing (unless_fault x.fault (taking_texts ((s.monitors n).logs f.head.log) f)) (with_monitor n x.view s)
  step s (Bring n c p came) =
      let v = s.monitors n in
      let x = on_bring S.coding S.settings c p came v in
      hashing (hashed_for x.says (leaf_text S.coding c ∷ bringing_texts p v came (answer_by S.coding S.settings v.now p (v.logs p.log)))) (with_monitor n x.view s)
  step s (WakeRelying k) = with_relying k (RelyingParty.on_tick s.clock (s.relying k)) s
  step s (GiveList k b) = relying_does k (on_list S.coding S.settings b (s.relying k)) [] s
  step s (Present k c p q) = relying_does k (on_present S.coding S.settings c p q (s.relying k)) (leaf_text S.coding c ∷ []) s
  step s (Settle k i which a) = with_relying k (on_answer S.coding S.settings i which a (s.relying k)) s

  -- the law of signatures: what verifies under an honest signer's key was signed by it
  abbrev pub Lawful : State → Sealed → Type 0
  Lawful s (SealedCertificate c) = S.honest_authority c.issuer ≡ true → right_certificate S.coding c ≡ true → SealedCertificate c ∈ s.signed
  Lawful s (SealedSct p) = S.honest_log p.log ≡ true → right_sct S.coding p ≡ true → SealedSct p ∈ s.signed
  Lawful s (SealedHead h) = S.honest_log h.log ≡ true → right_head S.coding h ≡ true → SealedHead h ∈ s.signed
  Lawful s (SealedList b) = S.honest_authority b.authority ≡ true → right_list S.coding b ≡ true → SealedList b ∈ s.signed

  -- an honest authority, and an honest log, that has come to the clock's tick
  pub record AuthorityAwake (s : State) (a : ℕ) : Type 0 where
    pub honest : S.honest_authority a ≡ true
    pub awake : (s.authorities a).now ≡ s.clock

  pub record LogAwake (s : State) (l : ℕ) : Type 0 where
    pub honest : S.honest_log l ≡ true
    pub awake : (s.logs l).now ≡ s.clock

  -- what an authority finds at a name, its owner published there
  abbrev pub Found : State → ℕ → ℕ → Option Bytes → Type 0
  Found s a serial found = (x : Account) → account_of serial (s.authorities a).accounts ≡ Some x → (d : Bytes) → found ≡ Some d → record { name = x.name; found = d } ∈ s.published

  abbrev pub Allowed : State → Move → Type 0
  Allowed s Passes = Unit {0}
  Allowed s (Want q) = Unit {0}
  -- only the owner of a name publishes there, for a key that it asked for, a response to whatever it took for a challenge
  Allowed s (Publish p) = (record { name = p.name; key = p.key } ∈ s.wanted) × (p.serial < 2 ^ 64) × (length p.nonce ≡ 16) × (length p.key ≡ 32)
  Allowed s (WakeAuthority a) = S.honest_authority a ≡ true
  Allowed s (Order a name key) = AuthorityAwake s a × (length key ≡ 32)
  Allowed s (Published a serial found) = AuthorityAwake s a × Found s a serial found
  Allowed s (Revoke a serial seal) = AuthorityAwake s a
  Allowed s (Withdraw a serial) = AuthorityAwake s a
  Allowed s (GetList a) = AuthorityAwake s a
  Allowed s (WakeLog l) = S.honest_log l ≡ true
  Allowed s (Submit l c) = LogAwake s l × Lawful s (SealedCertificate c) × (S.readable c ≡ true)
  Allowed s (GetHead l) = LogAwake s l
  Allowed s (WakeMonitor n) = Unit {0}
  Allowed s (Take n f) = Lawful s (SealedHead f.head) × ((c : Certificate) → c ∈ f.new → S.readable c ≡ true)
  Allowed s (Bring n c p came) = (f : Fetched) → came ≡ Some f → Lawful s (SealedHead f.head) × ((d : Certificate) → d ∈ f.new → S.readable d ≡ true)
  Allowed s (WakeRelying k) = Unit {0}
  Allowed s (GiveList k b) = Lawful s (SealedList b)
  Allowed s (Present k c p q) = ((s.relying k).now ≡ s.clock) × Lawful s (SealedCertificate c) × Lawful s (SealedSct p) × Lawful s (SealedSct q) × (S.readable c ≡ true)
  Allowed s (Settle k i which a) = Unit {0}

  abbrev pub begin : State
  begin = record {
    clock = 1;
    authorities = λ a. new_authority a (S.supplied a);
    logs = new_log;
    monitors = λ n. new_monitor (S.watched n);
    relying = λ k. new_relying;
    wanted = [];
    published = [];
    signed = [];
    hashed = [];
  }

  pub data Run : State → Type 0 where
    at_first : Run begin
    after : {s : State} → Run s → (m : Move) → Allowed s m → Run (step s m)
