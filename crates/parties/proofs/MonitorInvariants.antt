-- A monitor has looked through all entries below a log's head, and what it has only grows. Assumes nothing.
use Rattle.std.proofs.Common.{◌≡◌, ℕ, ◌^◌, ◌<◌, ◌≤◌, Bool, true, false, cond, eqb, ltb, ◌⊎◌, List, [], ◌∷◌, ◌++◌, map, length, Some, None, Option, sym, refl, ap, ◌∙◌, subst, inl, inr, le_trans, le_refl}
use mathlib.Core.List.Memᴰ
use mathlib.Core.List.{map-append}
use Rattle.std.proofs.lemmas.Bool.{leb-false, cond_both, and_parts, not-false, ltb-false, eqb-true}
use Rattle.model.specs.Lists.{◌∈◌}
use Rattle.model.specs.Objects.{Certificate}
use Rattle.wire_theory.specs.Bytes.{Bytes}
use Rattle.wire_theory.specs.Messages.{Message, SignedSct, Settings, MonitorAnswer}
use Rattle.wire_theory.specs.Messages.Message.{certificate, sct, head, list, order, challenge, published, submit, get_head, get_inclusion, get_consistency, get_entries, revoke, get_list, bring, present, inclusion, consistency, entries, answer, accepted, refused}
use Rattle.parties.specs.Coding.{Coding, same_bytes, leaf_of, root_of}
use Rattle.parties.specs.Steps.{first_fault}
use Rattle.parties.specs.Monitor.{Seen, MonitorView, new_monitor, with_seen, tick_of, Fetched, digests_with, faults_of, with_name, takes, Looked, looked_by, on_fetched, lastly, asked_for, asking, answering, brought_by}
use Rattle.parties.specs.Handling.{to_monitor}
use Rattle.parties.specs.Lives.{MonitorEvent, monitor_after, MonitorRun}
use Rattle.parties.specs.MonitorInvariants.{LookedThrough, Grows, Told, MonitorInvariantsHold}
use Rattle.parties.proofs.Compared.{same_true}
use Rattle.parties.proofs.Faults.{first_fault_none}
use Rattle.parties.proofs.Runs.{kept, begins_refl, begins_trans, update_both}

-- a head that may be taken after what was seen
pub record MayTake (K : Coding) (x : Seen) (f : Fetched) : Type 0 where
  pub known : K.knows_log f.head.log ≡ true
  pub signed : f.head.seal ≡ K.seal_head f.head
  pub tick : tick_of x.head ≤ f.head.at
  pub count : length (digests_with K x f.new) ≡ f.head.count
  pub root : root_of K (digests_with K x f.new) ≡ f.head.root
  pub in_range : f.head.at < 2 ^ 63

may_take : (K : Coding) (x : Seen) (f : Fetched) → first_fault (faults_of K x f) ≡ None → MayTake K x f
may_take K x f none =
    let (unknown, none2) = first_fault_none _ _ none in
    let (unsigned, none3) = first_fault_none _ _ none2 in
    let (lower, none4) = first_fault_none _ _ none3 in
    let (fewer, none5) = first_fault_none _ _ none4 in
    let (elsewhere, none6) = first_fault_none _ _ none5 in
    let (another, none7) = first_fault_none _ _ none6 in
    let (large, none8) = first_fault_none _ _ none7 in
    let (count, root) = and_parts _ _ (not-false _ another) in
    record { known = not-false _ unknown; signed = same_true _ _ (not-false _ unsigned); tick = ltb-false _ _ lower; count = eqb-true _ _ count; root = same_true _ _ root; in_range = leb-false _ _ large }

-- what was seen of a log, which was then asked at a tick
abbrev asked_at : ℕ → Seen → Seen
asked_at t x = record { head = x.head; digests = x.digests; found = x.found; asked = Some t }

-- any event: some ticks, asking a log, and taking a head

abbrev at_tick : ℕ → MonitorView → MonitorView
at_tick t v = record { name = v.name; now = t; logs = v.logs }

module _ (K : Coding) (P : MonitorView → Type 0) (asks : (l : ℕ) (u : MonitorView) → P u → P (asking l u))
    (looks : (f : Fetched) (u : MonitorView) → MayTake K (u.logs f.head.log) f → P u → P (with_seen f.head.log (takes K u.name (u.logs f.head.log) f) u)) where
  fetched_step : (f : Fetched) (u : MonitorView) → P u → P (on_fetched K f u).view
  fetched_step f u p = by (first_fault (faults_of K (u.logs f.head.log) f)) refl
    where
      by : (o : Option ℕ) → first_fault (faults_of K (u.logs f.head.log) f) ≡ o → P (looked_by K f u o).view
      by None e = looks f u (may_take K (u.logs f.head.log) f e) p
      by (Some n) e = p

  asked_step : (l : ℕ) (came : Option Fetched) (u : MonitorView) → P u → P (asked_for K l came u).view
  asked_step l None u p = p
  asked_step l (Some f) u p = cond_both (eqb f.head.log l) (on_fetched K f u) _ (λ (x : Looked). P x.view) (λ e. fetched_step f u p) (λ e. p)

  lastly_step : (u : MonitorView) (tells : List Certificate) (a : Option MonitorAnswer) → P u → P (lastly u tells a).view
  lastly_step u tells None p = p
  lastly_step u tells (Some a) p = p

  answering_step : (s : Settings) (p : SignedSct) (came : Option Fetched) (u : MonitorView) (a : Option MonitorAnswer) → P u → P (answering K s p came u a).view
  answering_step s p came u None h = lastly_step (asked_for K p.log came (asking p.log u)).view _ _ (asked_step p.log came (asking p.log u) (asks p.log u h))
  answering_step s p came u (Some a) h = h

  brought_step : (s : Settings) (p : SignedSct) (came : Option Fetched) (u : MonitorView) (o : Option ℕ) → P u → P (brought_by K s p came u o).view
  brought_step s p came u None h = answering_step s p came u _ h
  brought_step s p came u (Some n) h = h

  message_step : (s : Settings) (came : Option Fetched) (m : Message) (u : MonitorView) → P u → P (to_monitor K s came m u).view
  message_step s came (certificate c) u before = before
  message_step s came (sct p) u before = before
  message_step s came (head h) u before = before
  message_step s came (list b) u before = before
  message_step s came (order name key) u before = before
  message_step s came (challenge serial nonce) u before = before
  message_step s came (published serial) u before = before
  message_step s came (submit c) u before = before
  message_step s came get_head u before = before
  message_step s came (get_inclusion place count) u before = before
  message_step s came (get_consistency from to) u before = before
  message_step s came (get_entries from to) u before = before
  message_step s came (revoke serial seal) u before = before
  message_step s came get_list u before = before
  message_step s came (bring c p) u before = brought_step s p came u _ before
  message_step s came (present c p q) u before = before
  message_step s came (inclusion path) u before = before
  message_step s came (consistency path) u before = before
  message_step s came (entries cs) u before = before
  message_step s came (answer a) u before = before
  message_step s came accepted u before = before
  message_step s came (refused cause) u before = before

  monitor_step : ((t : ℕ) (u : MonitorView) → u.now ≤ t → P u → P (at_tick t u)) → (s : Settings) (e : MonitorEvent) (u : MonitorView) → P u → P (monitor_after K s e u)
  monitor_step ticks s (MonitorEvent.Ticks t) u p = cond_both (ltb t u.now) u (at_tick t u) P (λ e. p) (λ e. ticks t u (ltb-false _ _ e) p)
  monitor_step ticks s (MonitorEvent.Gets came m) u p = message_step s came m u p
  monitor_step ticks s (MonitorEvent.Asks l) u p = asks l u p
  monitor_step ticks s (MonitorEvent.Fetches f) u p = fetched_step f u p

time : (K : Coding) (s : Settings) (v w : MonitorView) → MonitorRun K s v w → (v.now ≤ w.now) × (w.name ≡ v.name)
time K s v w r = kept (λ u. (v.now ≤ u.now) × (u.name ≡ v.name))
    (monitor_step K (λ u. (v.now ≤ u.now) × (u.name ≡ v.name)) (λ l u p. p) (λ f u m p. p) (λ t u l p. (le_trans p.0 l, p.1)) s) r (le_refl _, refl)

-- what it looked through

with_name_both : (name : Bytes) (cs ds : List Certificate) → with_name name (cs ++ ds) ≡ with_name name cs ++ with_name name ds
unfolding with_name
with_name_both name [] ds = refl
with_name_both name (c ∷ cs) ds = by (same_bytes c.name name) (with_name_both name cs ds)
  where
    by : (b : Bool) → with_name name (cs ++ ds) ≡ with_name name cs ++ with_name name ds →
        cond b (c ∷ with_name name (cs ++ ds)) (with_name name (cs ++ ds)) ≡ cond b (c ∷ with_name name cs) (with_name name cs) ++ with_name name ds
    by true e = ap {B = List Certificate} (λ es. c ∷ es) e
    by false e = e

none_with_name : (name : Bytes) → [] ≡ with_name name []
unfolding with_name
none_with_name name = refl

takes_looked : (K : Coding) (name : Bytes) (f : Fetched) (x : Seen) → MayTake K x f → LookedThrough K name f.head.log x → LookedThrough K name f.head.log (takes K name x f)
takes_looked K name f x m h = record {
  entries = h.entries ++ f.new;
  digests = ap (λ (ds : List Bytes). ds ++ map (leaf_of K) f.new) h.digests ∙ sym (map-append (leaf_of K) h.entries f.new);
  found = ap (λ (cs : List Certificate). cs ++ with_name name f.new) h.found ∙ sym (with_name_both name h.entries f.new);
  head = record { by_it = refl; known = m.known; signed = m.signed; count = sym m.count; root = sym m.root; in_range = m.in_range };
}

looked_through : (K : Coding) (s : Settings) (name : Bytes) (v : MonitorView) → MonitorRun K s (new_monitor name) v → (log : ℕ) → LookedThrough K v.name log (v.logs log)
looked_through K s name v r = kept (λ u. (log : ℕ) → LookedThrough K u.name log (u.logs log))
    (monitor_step K (λ u. (log : ℕ) → LookedThrough K u.name log (u.logs log))
    (λ l u p log. update_both l (asked_at u.now (u.logs l)) u.logs log (LookedThrough K u.name log)
    (λ q. subst (λ (i : ℕ). LookedThrough K u.name i (asked_at u.now (u.logs l))) (sym q) (record { entries = (p l).entries; digests = (p l).digests; found = (p l).found; head = (p l).head })) (λ q. p log))
    (λ f u m p log. update_both f.head.log (takes K u.name (u.logs f.head.log) f) u.logs log (LookedThrough K u.name log)
    (λ q. subst (λ (i : ℕ). LookedThrough K u.name i (takes K u.name (u.logs f.head.log) f)) (sym q) (takes_looked K u.name f (u.logs f.head.log) m (p f.head.log))) (λ q. p log))
    (λ t u l p. p) s) r (λ log. record { entries = []; digests = refl; found = none_with_name name; head = refl })

-- what only grows

grows_refl : (x : Seen) → Grows x x
grows_refl x = record { digests = begins_refl _; found = begins_refl _; tick = le_refl _ }

grows_trans : (x y z : Seen) → Grows x y → Grows y z → Grows x z
grows_trans x y z p q = record { digests = begins_trans p.digests q.digests; found = begins_trans p.found q.found; tick = le_trans p.tick q.tick }

takes_grows : (K : Coding) (name : Bytes) (f : Fetched) (x : Seen) → MayTake K x f → Grows x (takes K name x f)
takes_grows K name f x m = record { digests = record { more = _; is = refl }; found = record { more = _; is = refl }; tick = m.tick }

seen_grows : (K : Coding) (s : Settings) (v w : MonitorView) → MonitorRun K s v w → (log : ℕ) → Grows (v.logs log) (w.logs log)
seen_grows K s v w r = kept (λ u. (log : ℕ) → Grows (v.logs log) (u.logs log))
    (monitor_step K (λ u. (log : ℕ) → Grows (v.logs log) (u.logs log))
    (λ l u p log. update_both l (asked_at u.now (u.logs l)) u.logs log (Grows (v.logs log))
    (λ q. subst (λ (i : ℕ). Grows (v.logs i) (asked_at u.now (u.logs l))) (sym q) (record { digests = (p l).digests; found = (p l).found; tick = (p l).tick })) (λ q. p log))
    (λ f u m p log. update_both f.head.log (takes K u.name (u.logs f.head.log) f) u.logs log (Grows (v.logs log))
    (λ q. subst (λ (i : ℕ). Grows (v.logs i) (takes K u.name (u.logs f.head.log) f)) (sym q)
    (grows_trans (v.logs f.head.log) (u.logs f.head.log) (takes K u.name (u.logs f.head.log) f) (p f.head.log) (takes_grows K u.name f (u.logs f.head.log) m))) (λ q. p log))
    (λ t u l p. p) s) r (λ log. grows_refl _)

-- what its owner is told

told_itself : (v : MonitorView) (tells : List Certificate) → Told v v tells
told_itself v tells log c m = inl m

found_is_told : (K : Coding) (f : Fetched) (v : MonitorView) → Told v (on_fetched K f v).view (on_fetched K f v).tells
found_is_told K f v = by (first_fault (faults_of K (v.logs f.head.log) f))
  where
    by : (o : Option ℕ) → Told v (looked_by K f v o).view (looked_by K f v o).tells
    by None log c = update_both f.head.log (takes K v.name (v.logs f.head.log) f) v.logs log (λ (x : Seen). c ∈ x.found → (c ∈ (v.logs log).found) ⊎ (c ∈ with_name v.name f.new))
        (λ q m. elim (Memᴰ.append_cases (v.logs f.head.log).found m) [ inl l ↦ inl (subst (λ (i : ℕ). c ∈ (v.logs i).found) (sym q) l) | inr n ↦ inr n ]) (λ q m. inl m)
    by (Some n) log c = λ m. inl m

asked_is_told : (K : Coding) (l : ℕ) (came : Option Fetched) (v : MonitorView) → Told v (asked_for K l came v).view (asked_for K l came v).tells
asked_is_told K l None v = told_itself v []
asked_is_told K l (Some f) v = cond_both (eqb f.head.log l) (on_fetched K f v) _ (λ (x : Looked). Told v x.view x.tells) (λ e. found_is_told K f v) (λ e. told_itself v [])

asking_finds_nothing : (l : ℕ) (v : MonitorView) (log : ℕ) (c : Certificate) → c ∈ ((asking l v).logs log).found → c ∈ (v.logs log).found
asking_finds_nothing l v log c = update_both l (asked_at v.now (v.logs l)) v.logs log (λ (x : Seen). c ∈ x.found → c ∈ (v.logs log).found) (λ q m. subst (λ (i : ℕ). c ∈ (v.logs i).found) (sym q) m) (λ q m. m)

lastly_is_told : (v w : MonitorView) (tells : List Certificate) (a : Option MonitorAnswer) → Told v w tells → Told v (lastly w tells a).view (lastly w tells a).tells
lastly_is_told v w tells None t = t
lastly_is_told v w tells (Some a) t = t

answering_is_told : (K : Coding) (s : Settings) (p : SignedSct) (came : Option Fetched) (v : MonitorView) (a : Option MonitorAnswer) → Told v (answering K s p came v a).view (answering K s p came v a).tells
answering_is_told K s p came v None = lastly_is_told v (asked_for K p.log came (asking p.log v)).view _ _
    (λ log c m. elim (asked_is_told K p.log came (asking p.log v) log c m) [ inl l ↦ inl (asking_finds_nothing p.log v log c l) | inr n ↦ inr n ])
answering_is_told K s p came v (Some a) = told_itself v []

brought_is_told : (K : Coding) (s : Settings) (p : SignedSct) (came : Option Fetched) (v : MonitorView) (o : Option ℕ) → Told v (brought_by K s p came v o).view (brought_by K s p came v o).tells
brought_is_told K s p came v None = answering_is_told K s p came v _
brought_is_told K s p came v (Some n) = told_itself v []

message_is_told : (K : Coding) (s : Settings) (came : Option Fetched) (m : Message) (v : MonitorView) → Told v (to_monitor K s came m v).view (to_monitor K s came m v).tells
message_is_told K s came (certificate c) v = told_itself v []
message_is_told K s came (sct p) v = told_itself v []
message_is_told K s came (head h) v = told_itself v []
message_is_told K s came (list b) v = told_itself v []
message_is_told K s came (order name key) v = told_itself v []
message_is_told K s came (challenge serial nonce) v = told_itself v []
message_is_told K s came (published serial) v = told_itself v []
message_is_told K s came (submit c) v = told_itself v []
message_is_told K s came get_head v = told_itself v []
message_is_told K s came (get_inclusion place count) v = told_itself v []
message_is_told K s came (get_consistency from to) v = told_itself v []
message_is_told K s came (get_entries from to) v = told_itself v []
message_is_told K s came (revoke serial seal) v = told_itself v []
message_is_told K s came get_list v = told_itself v []
message_is_told K s came (bring c p) v = brought_is_told K s p came v _
message_is_told K s came (present c p q) v = told_itself v []
message_is_told K s came (inclusion path) v = told_itself v []
message_is_told K s came (consistency path) v = told_itself v []
message_is_told K s came (entries cs) v = told_itself v []
message_is_told K s came (answer a) v = told_itself v []
message_is_told K s came accepted v = told_itself v []
message_is_told K s came (refused cause) v = told_itself v []

pub monitor_invariants_hold : MonitorInvariantsHold
monitor_invariants_hold K s = record {
  time = time K s;
  looked_through = λ name v r log. subst (λ (n : Bytes). LookedThrough K n log (v.logs log)) (time K s (new_monitor name) v r).1 (looked_through K s name v r log);
  seen_grows = seen_grows K s;
  found_is_told = found_is_told K;
  found_is_told_when_asked = message_is_told K s;
}
