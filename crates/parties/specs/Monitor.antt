-- The monitor of a name: for each log the last head, the digests of all entries below it, and the certificates with its name that it found there. Assumes nothing.
use Rattle.std.specs.Prelude.{ℕ, suc, ◌+◌, Bool, true, false, cond, not, ◌&&◌, ◌||◌, List, [], ◌∷◌, ◌++◌, length, Some, None, Option, ◌==◌, nat_le, nat_lt}
use Rattle.merkle_theory.specs.Bytes.{over_leaves}
use Rattle.merkle_theory.specs.Tree.{Roots, path, roots_from_consistency}
use Rattle.model.specs.Objects.{Certificate}
use Rattle.model.specs.World.{update}
use Rattle.wire_theory.specs.Bytes.{Bytes}
use Rattle.wire_theory.specs.Messages.{Message, SignedSct, SignedHead, Settings, MonitorAnswer}
use Rattle.wire_theory.specs.Messages.Message.{answer, refused}
use Rattle.wire_theory.specs.Messages.MonitorAnswer.{included, not_due, convicts, no_head_so_late}
use Rattle.parties.specs.Coding.{Coding, same_bytes, leaf_of, leaves_of, root_of, node_of, right_certificate, right_sct, right_head}
use Rattle.parties.specs.Steps.{Fault, ◌⇒◌, first_fault, or_else, too_large}
use Rattle.parties.specs.Evidence.{is_late, gives_root}

-- asked: when it last asked the log for a head
pub record Seen : Type 0 where
  pub head : Option SignedHead
  pub digests : List Bytes
  pub found : List Certificate
  pub asked : Option ℕ

pub record MonitorView : Type 0 where
  pub name : Bytes
  pub now : ℕ
  pub logs : ℕ → Seen

abbrev pub nothing_seen : Seen
nothing_seen = record { head = None; digests = []; found = []; asked = None }

abbrev pub new_monitor : Bytes → MonitorView
new_monitor name = record { name = name; now = 0; logs = λ l. nothing_seen }

abbrev pub with_seen : ℕ → Seen → MonitorView → MonitorView
with_seen l x v = record { name = v.name; now = v.now; logs = update l x v.logs }

-- the tick and the root of the last head; without one, those of no entries
abbrev pub tick_of : Option SignedHead → ℕ
tick_of None = 0
tick_of (Some h) = h.at

-- Taking a head

-- what a log answered when it was asked for a head: the head, the consistency proof from the last one, and the entries since
pub record Fetched : Type 0 where
  pub head : SignedHead
  pub proof : List Bytes
  pub new : List Certificate

abbrev pub leads_to_both : Bytes → Bytes → Option (Roots Bytes) → Bool
leads_to_both old new None = false
leads_to_both old new (Some r) = same_bytes r.earlier old && same_bytes r.later new

-- from no entries no proof is needed
abbrev pub goes_on : Coding → Seen → Fetched → Bool
goes_on K x f =
    let old = root_of K x.digests in
    (length x.digests == 0) || leads_to_both old f.head.root (roots_from_consistency (node_of K) (length x.digests) f.head.count true old f.proof)

abbrev pub digests_with : Coding → Seen → List Certificate → List Bytes
digests_with K x new = x.digests ++ leaves_of K new

abbrev pub faults_of : Coding → Seen → Fetched → List Fault
faults_of K x f =
    not (K.knows_log f.head.log) ⇒ 2 ∷ (not (right_head K f.head) ⇒ 3 ∷ (nat_lt f.head.at (tick_of x.head) ⇒ 5 ∷ (nat_lt f.head.count (length x.digests) ⇒ 5 ∷
    (not (goes_on K x f) ⇒ 6 ∷ (not (gives_root K (digests_with K x f.new) f.head) ⇒ 7 ∷ (too_large f.head.at ⇒ 14 ∷ []))))))

-- the certificates with a name
unfoldable pub with_name : Bytes → List Certificate → List Certificate
with_name name [] = []
with_name name (c ∷ cs) = cond (same_bytes c.name name) (c ∷ with_name name cs) (with_name name cs)

abbrev pub takes : Coding → Bytes → Seen → Fetched → Seen
takes K name x f = record { head = Some f.head; digests = digests_with K x f.new; found = x.found ++ with_name name f.new; asked = x.asked }

-- the view after it, the number of a fault, and the certificates that the owner is told of
pub record Looked : Type 0 where
  pub view : MonitorView
  pub fault : Option ℕ
  pub tells : List Certificate

abbrev pub looked_by : Coding → Fetched → MonitorView → Option ℕ → Looked
looked_by K f v (Some n) = record { view = v; fault = Some n; tells = [] }
looked_by K f v None = record { view = with_seen f.head.log (takes K v.name (v.logs f.head.log) f) v; fault = None; tells = with_name v.name f.new }

abbrev pub on_fetched : Coding → Fetched → MonitorView → Looked
on_fetched K f v = looked_by K f v (first_fault (faults_of K (v.logs f.head.log) f))

-- A promise that is brought

abbrev pub one_further : Option ℕ → Option ℕ
one_further None = None
one_further (Some i) = Some (suc i)

-- the first place of a digest
unfoldable pub place_of : Bytes → List Bytes → Option ℕ
place_of d [] = None
place_of d (e ∷ es) = cond (same_bytes d e) (Some 0) (one_further (place_of d es))

-- it stands below the head, at this place, by this path
abbrev pub placed : Coding → Seen → Option SignedHead → Option ℕ → Option MonitorAnswer
placed K x None place = None
placed K x (Some h) None = None
placed K x (Some h) (Some place) = Some (included h place (path (over_leaves K.hash) place x.digests))

abbrev pub is_due : Settings → ℕ → SignedSct → Bool
is_due s t p = nat_le (p.at + s.mmd) t

-- the head is late enough to convict
abbrev pub convicting : Settings → SignedSct → Seen → Option SignedHead → Option MonitorAnswer
convicting s p x None = None
convicting s p x (Some h) = cond (is_late s p h) (Some (convicts h x.digests)) None

-- what it answers by what it has of the log: where the certificate stands; that the promise isn't due; or what convicts. Else it has no answer yet
abbrev pub answer_by : Coding → Settings → ℕ → SignedSct → Seen → Option MonitorAnswer
answer_by K s t p x =
    or_else (placed K x x.head (place_of p.digest x.digests)) (or_else (cond (is_due s t p) None (Some not_due)) (convicting s p x x.head))

-- the view after it, the answer, and the certificates that the owner is told of
pub record Brought : Type 0 where
  pub view : MonitorView
  pub says : Message
  pub tells : List Certificate

abbrev pub says : MonitorView → List Certificate → Message → Brought
says v told m = record { view = v; says = m; tells = told }

abbrev pub lastly : MonitorView → List Certificate → Option MonitorAnswer → Brought
lastly v told None = says v told (answer no_head_so_late)
lastly v told (Some a) = says v told (answer a)

-- the log was asked: came is what it answered, before the next tick
abbrev pub asked_for : Coding → ℕ → Option Fetched → MonitorView → Looked
asked_for K l None v = record { view = v; fault = None; tells = [] }
asked_for K l (Some f) v = cond (f.head.log == l) (on_fetched K f v) (record { view = v; fault = None; tells = [] })

abbrev pub asking : ℕ → MonitorView → MonitorView
asking l v = let x = v.logs l in with_seen l (record { head = x.head; digests = x.digests; found = x.found; asked = Some v.now }) v

abbrev pub after_asking : Coding → Settings → SignedSct → Looked → Brought
after_asking K s p k = lastly k.view k.tells (answer_by K s k.view.now p (k.view.logs p.log))

abbrev pub answering : Coding → Settings → SignedSct → Option Fetched → MonitorView → Option MonitorAnswer → Brought
answering K s p came v (Some a) = says v [] (answer a)
answering K s p came v None = after_asking K s p (asked_for K p.log came (asking p.log v))

abbrev pub faults_of_brought : Coding → ℕ → Certificate → SignedSct → List Fault
faults_of_brought K t c p =
    not (K.knows_authority c.issuer && K.knows_log p.log) ⇒ 2 ∷ (not (right_certificate K c && right_sct K p) ⇒ 3 ∷
    (not (same_bytes p.digest (leaf_of K c) && nat_le p.at t) ⇒ 8 ∷ ((too_large c.serial || (too_large c.expiry || too_large p.at)) ⇒ 14 ∷ [])))

abbrev pub brought_by : Coding → Settings → SignedSct → Option Fetched → MonitorView → Option ℕ → Brought
brought_by K s p came v (Some n) = says v [] (refused n)
brought_by K s p came v None = answering K s p came v (answer_by K s v.now p (v.logs p.log))

abbrev pub on_bring : Coding → Settings → Certificate → SignedSct → Option Fetched → MonitorView → Brought
on_bring K s c p came v = brought_by K s p came v (first_fault (faults_of_brought K v.now c p))

-- Time

abbrev pub on_tick : ℕ → MonitorView → MonitorView
on_tick t v = cond (nat_lt t v.now) v (record { name = v.name; now = t; logs = v.logs })

-- a log that it has never asked, or not for a merge delay
abbrev pub must_ask : Settings → ℕ → Option ℕ → Bool
must_ask s t None = true
must_ask s t (Some at) = nat_le (at + s.mmd) t
