-- What can be reached from every world: an acceptance, a head with all that was promised, a list with what was revoked. Assumes nothing.
use Rattle.std.proofs.Common.{◌≡◌, ℕ, zero, suc, ◌+◌, ◌-◌, ◌<◌, ◌≤◌, true, ◌⊎◌, List, [], ◌∷◌, ◌++◌, sym, refl, ap, ◌∙◌, subst, inl, inr, le_refl, arith}
use mathlib.Core.List.Memᴰ
use Rattle.std.proofs.lemmas.Bool.{cases_eq}
use Rattle.model.specs.Lists.{◌∈◌}
use Rattle.model.specs.Objects.{Certificate, Order, Sct, TreeHead, RevocationList, Signed, Revocation, Acceptance}
use Rattle.model.specs.Objects.Signed.{Issued, Promised, Headed, Listed}
use Rattle.model.specs.World.{Event, World, Happened, start, apply, update}
use Rattle.model.specs.World.Sender.{Owner}
use Rattle.model.specs.World.Event.{Tick, Asks, Orders, Publishes, Signs, Merges, Takes, Revokes, Accepts}
use Rattle.model.specs.Rules.{Rules, May, Steps, response_to, Drawn, IsIssued, IsRevoked, MayHead, MayTake, serials_of}
use Rattle.model.specs.Rules.Asked.{by_order}
use Rattle.model.specs.Rules.Steps.{here, onward}
use Rattle.model.specs.Guarantees.{Acceptable, Shown, Withdrawn, Possible}
use Rattle.model.proofs.Past.{happened_before_another, happened_stays}
use Rattle.model.proofs.Growth.{entries_after, in_longer}
use Rattle.model.proofs.Serials.{serial_was_revoked, revoked_has_serial}
use Rattle.model.proofs.Issuing.{issued_was_asked_for, drawn_serial_below}
use Rattle.model.proofs.Logging.{head_is_taken}
use Rattle.model.proofs.Revoking.{revoked_has_happened, revoked_was_drawn}
use Rattle.model.proofs.Updates.{update_here}

-- Seven events to an acceptance: the order, the response, the certificate, two promises, a list, and the acceptance

-- an order and its response revoke nothing, and issue nothing

abbrev responded : World → Order → World
responded w o = apply (apply w (Orders Owner o)) (Publishes (response_to o))

before_both : (w : World) (o : Order) (e : Event) → ¬ (e ≡ Publishes (response_to o)) → ¬ (e ≡ Orders Owner o) → Happened (responded w o) e → Happened w e
before_both w o e p q h = happened_before_another w (Orders Owner o) e q (happened_before_another (apply w (Orders Owner o)) (Publishes (response_to o)) e p h)

pub revoked_before_order : (w : World) (o : Order) (g : Revocation) → Happened (responded w o) (Revokes g) → Happened w (Revokes g)
revoked_before_order w o g = before_both w o (Revokes g) (λ z. let clash : ◌≡◌ {A = ℕ} 0 1 = cc in omega arith) (λ z. let clash : ◌≡◌ {A = ℕ} 0 1 = cc in omega arith)

pub issued_before_order : (w : World) (o : Order) (c : Certificate) → Happened (responded w o) (Signs (Issued c)) → Happened w (Signs (Issued c))
issued_before_order w o c = before_both w o (Signs (Issued c)) (λ z. let clash : ◌≡◌ {A = ℕ} 0 1 = cc in omega arith) (λ z. let clash : ◌≡◌ {A = ℕ} 0 1 = cc in omega arith)

module _ (r : Rules) (k : ℕ) (w : World) (run : Steps r k start w) (a : ℕ) (honest : r.honest_authority a ≡ true) where
  -- nothing of the next serial has happened
  not_revoked : ¬ IsRevoked w a (w.next a)
  not_revoked (g, h, p, q) =
      let d = (revoked_was_drawn r k w run g (ap r.honest_authority p ∙ honest) h).0 in
      let below : g.serial < w.next g.authority = drawn_serial_below r k w run g.authority g.serial (ap r.honest_authority p ∙ honest) d in
      omega (arith, ap w.next p, q)

  not_issued : ¬ IsIssued w a (w.next a)
  not_issued (c, h, p, q) =
      let f = issued_was_asked_for r k w run c (ap r.honest_authority p ∙ honest) h in
      let drawn : Drawn w a (w.next a) = record { sender = f.sender; order = f.order; ordered = f.ordered; authority = f.fulfils.authority ∙ p; serial = f.fulfils.serial ∙ q } in
      let below : w.next a < w.next a = drawn_serial_below r k w run a (w.next a) honest drawn in omega arith

  not_listed : ¬ (w.next a ∈ serials_of r.lifetime a w.now w.revoked)
  not_listed m = let t = serial_was_revoked r.lifetime a w.now w.revoked (w.next a) m in
      not_revoked (t.revocation, revoked_has_happened run t.revocation t.there, t.authority, t.serial)

  module _ (l m : ℕ) (name key : List ℕ) (two : ¬ (l ≡ m)) where
    order : Order
    order = record { authority = a; name = name; key = key; serial = w.next a; nonce = [] }

    certificate : Certificate
    certificate = record { issuer = a; name = name; key = key; serial = w.next a; expiry = w.now + r.lifetime; seal = [] }

    sct : ℕ → Sct
    sct i = record { log = i; certificate = certificate; at = w.now }

    list : RevocationList
    list = record { authority = a; at = w.now; serials = serials_of r.lifetime a w.now w.revoked }

    acceptance : Acceptance
    acceptance = record { certificate = certificate; first = sct l; second = sct m; list = list; at = w.now }

    signed : World
    signed = apply (apply (apply (apply (responded w order) (Signs (Issued certificate))) (Signs (Promised (sct l)))) (Signs (Promised (sct m)))) (Signs (Listed list))

    seven : Steps r 7 w (apply signed (Accepts acceptance))
    unfolding order certificate sct list acceptance signed
    seven = onward (onward (onward (onward (onward (onward (onward here
        (Orders Owner order) (λ h. le_refl _))
        (Publishes (response_to order)) (by_order order (Memᴰ.head refl) refl))
        (Signs (Issued certificate)) (λ h. record {
          sender = Owner;
          order = order;
          ordered = Memᴰ.tail (Memᴰ.head refl);
          published = Memᴰ.head refl;
          fulfils = record { authority = refl; name = refl; key = refl; serial = refl };
          expiry = refl;
          not_revoked = λ (g, m, p, q). not_revoked (g, revoked_before_order w order g m, p, q);
          once = λ (c, m, p, q). not_issued (c, issued_before_order w order c m, p, q);
        }))
        (Signs (Promised (sct l))) (λ h. record { issued = Memᴰ.head refl; at = refl }))
        (Signs (Promised (sct m))) (λ h. record { issued = Memᴰ.tail (Memᴰ.head refl); at = refl }))
        (Signs (Listed list)) (λ h. record { at = refl; serials = refl }))
        (Accepts acceptance) (record {
          at = refl;
          issued = Memᴰ.tail (Memᴰ.tail (Memᴰ.tail (Memᴰ.head refl)));
          not_expired = omega arith;
          first = record { promised = Memᴰ.tail (Memᴰ.tail (Memᴰ.head refl)); certificate = refl; not_future = le_refl _ };
          second = record { promised = Memᴰ.tail (Memᴰ.head refl); certificate = refl; not_future = le_refl _ };
          two_logs = two;
          cleared = record { listed = Memᴰ.head refl; issuer = refl; not_future = le_refl _; fresh = omega arith; not_revoked = not_listed };
        })

    pub can_be_accepted : Acceptable r w a l m name key
    unfolding certificate sct acceptance
    can_be_accepted = record { before = signed; acceptance = acceptance; steps = seven; issuer = refl; owner = refl; holder = refl; expiry = refl; first = refl; second = refl; at = refl }

-- Two events to a list with a serial

module _ (r : Rules) (w : World) (a i : ℕ) (drawn : Drawn w a i) (fresh : ¬ IsRevoked w a i) where
  revocation : Revocation
  revocation = record { authority = a; serial = i; at = w.now }

  pub can_be_revoked : Withdrawn r w a i
  unfolding revocation
  can_be_revoked = record {
    before = apply w (Revokes revocation);
    list = record { authority = a; at = w.now; serials = serials_of r.lifetime a w.now (revocation ∷ w.revoked) };
    steps = onward (onward here (Revokes revocation) (λ h. record { drawn = drawn; at = refl; once = fresh })) (Signs (Listed _)) (λ h. record { at = refl; serials = refl });
    authority = refl;
    at = refl;
    listed = revoked_has_serial r.lifetime a w.now (revocation ∷ w.revoked) revocation (Memᴰ.head refl) refl (omega arith);
    revoked = (revocation, Memᴰ.head refl, refl, refl);
  }

-- As many events as it takes to a head with all that was promised: wait, merge, sign, take

pub joined : {r : Rules} {i j : ℕ} {u v w : World} → Steps r i u v → Steps r j v w → (k : ℕ) × Steps r k u w
joined {i = i} s here = (i, s)
joined s (onward t e m) = let (k, a) = joined s t in (suc k, onward a e m)

-- the promises among events

unfoldable pub promises_signed : Signed → List Sct
promises_signed (Issued c) = []
promises_signed (Promised s) = s ∷ []
promises_signed (Headed h) = []
promises_signed (Listed b) = []

unfoldable pub promises_in : Event → List Sct
promises_in Tick = []
promises_in (Asks q) = []
promises_in (Orders s o) = []
promises_in (Publishes p) = []
promises_in (Signs s) = promises_signed s
promises_in (Merges l c) = []
promises_in (Takes n h) = []
promises_in (Revokes g) = []
promises_in (Accepts x) = []

unfoldable pub promises_of : List Event → List Sct
promises_of [] = []
promises_of (e ∷ es) = promises_in e ++ promises_of es

pub promise_is_found : (s : Sct) (es : List Event) → Signs (Promised s) ∈ es → s ∈ promises_of es
unfolding promises_of promises_in promises_signed
promise_is_found s [] m = elim m [ ]
promise_is_found s (e ∷ es) m = elim (Memᴰ.cases_cons m) [
  | inl q ↦ subst (λ (f : Event). s ∈ promises_in f ++ promises_of es) q (Memᴰ.head refl)
  | inr n ↦ Memᴰ.append_right (promises_in e) (promise_is_found s es n)
]

signed_is_promise : (s : Sct) (x : Signed) → s ∈ promises_signed x → Promised s ≡ x
unfolding promises_signed
signed_is_promise s (Issued c) m = elim m [ ]
signed_is_promise s (Promised t) m = ap Promised (Memᴰ.eq_of_singleton m)
signed_is_promise s (Headed h) m = elim m [ ]
signed_is_promise s (Listed b) m = elim m [ ]

event_is_promise : (s : Sct) (e : Event) → s ∈ promises_in e → Signs (Promised s) ≡ e
unfolding promises_in
event_is_promise s Tick m = elim m [ ]
event_is_promise s (Asks q) m = elim m [ ]
event_is_promise s (Orders t o) m = elim m [ ]
event_is_promise s (Publishes p) m = elim m [ ]
event_is_promise s (Signs x) m = ap Signs (signed_is_promise s x m)
event_is_promise s (Merges l c) m = elim m [ ]
event_is_promise s (Takes n h) m = elim m [ ]
event_is_promise s (Revokes g) m = elim m [ ]
event_is_promise s (Accepts x) m = elim m [ ]

found_is_promise : (s : Sct) (es : List Event) → s ∈ promises_of es → Signs (Promised s) ∈ es
unfolding promises_of
found_is_promise s [] m = elim m [ ]
found_is_promise s (e ∷ es) m = elim (Memᴰ.append_cases (promises_in e) m) [ inl n ↦ Memᴰ.head (event_is_promise s e n) | inr n ↦ Memᴰ.tail (found_is_promise s es n) ]

-- a world that is reached with no new promise, at a tick
record Reached (r : Rules) (w : World) (t : ℕ) : Type 0 where
  events : ℕ
  after : World
  steps : Steps r events w after
  now : after.now ≡ t
  promises : (s : Sct) → Happened after (Signs (Promised s)) → Happened w (Signs (Promised s))

-- one more event, which is no promise
abbrev quietly : {r : Rules} {w : World} {t : ℕ} (u : Reached r w t) (e : Event) → May r u.after e → ((s : Sct) → ¬ (Signs (Promised s) ≡ e)) →
    (t' : ℕ) → (apply u.after e).now ≡ t' → Reached r w t'
quietly u e m other t' q = record {
  events = suc u.events;
  after = apply u.after e;
  steps = onward u.steps e m;
  now = q;
  promises = λ s h. u.promises s (happened_before_another u.after e (Signs (Promised s)) (other s) h);
}

waits : (r : Rules) (w : World) (n : ℕ) → Reached r w (w.now + n)
waits r w zero = record { events = 0; after = w; steps = here; now = omega arith; promises = λ s h. h }
waits r w (suc n) = let u = waits r w n in
    quietly u Tick tt (λ s z. let clash : ◌≡◌ {A = ℕ} 0 1 = cc in omega arith) (w.now + suc n) (omega (arith, u.now))

-- what is merged stands in the entries
merged_is_there : (w : World) (l : ℕ) (c : Certificate) → c ∈ (apply w (Merges l c)).entries l
merged_is_there w l c = subst (λ (es : List Certificate). c ∈ es) (sym (update_here l (w.entries l ++ (c ∷ [])) w.entries)) (Memᴰ.append_right (w.entries l) (Memᴰ.head refl))

module _ (r : Rules) (w : World) (l t : ℕ) where
  -- these promises of the log are kept
  record Merged (ss : List Sct) : Type 0 where
    reached : Reached r w t
    all : (s : Sct) → s ∈ ss → s.log ≡ l → s.certificate ∈ reached.after.entries l

  merges : Reached r w t → (ss : List Sct) → ((s : Sct) → s ∈ ss → Happened w (Signs (Promised s))) → Merged ss
  merges u [] h = record { reached = u; all = λ s m. elim m [ ] }
  merges u (s ∷ ss) h = step (merges u ss (λ x m. h x (Memᴰ.tail m))) (cases_eq s.log l)
    where
      step : Merged ss → (s.log ≡ l) ⊎ (s.log ≡ l → ⊥) → Merged (s ∷ ss)
      step v (inl q) = record {
        reached = quietly v.reached (Merges l s.certificate)
            (λ honest. record { sct = s; promised = happened_stays v.reached.steps (Signs (Promised s)) (h s (Memᴰ.head refl)); log = q; certificate = refl })
            (λ x z. let clash : ◌≡◌ {A = ℕ} 0 1 = cc in omega arith) t v.reached.now;
        all = λ x m p. elim (Memᴰ.cases_cons m) [
          | inl z ↦ subst (λ (y : Sct). y.certificate ∈ (apply v.reached.after (Merges l s.certificate)).entries l) (sym z)
              (merged_is_there v.reached.after l s.certificate)
          | inr n ↦ in_longer (entries_after v.reached.after (Merges l s.certificate) l) (v.all x n p)
        ];
      }
      step v (inr q) = record {
        reached = v.reached;
        all = λ x m p. elim (Memᴰ.cases_cons m) [ inl z ↦ absurd (q (ap (λ (y : Sct). y.log) (sym z) ∙ p)) | inr n ↦ v.all x n p ];
      }

  -- the log has kept all its promises: it signs, and a monitor takes what it signed
  module _ (k : ℕ) (run : Steps r k start w) (n : ℕ) (honest : r.honest_log l ≡ true) (v : Merged (promises_of w.past)) where
    full : World
    full = v.reached.after

    head : TreeHead
    head = record { log = l; at = full.now; entries = full.entries l }

    may_head : MayHead r full head
    unfolding full head
    may_head = record { at = refl; entries = refl; kept = λ s h q due. v.all s (promise_is_found s w.past (v.reached.promises s h)) q }

    may_take : MayTake (apply full (Signs (Headed head))) n head
    unfolding full head
    may_take = let (j, s) = joined run v.reached.steps in head_is_taken r j full s head honest may_head n

    taken_is_seen : (apply (apply full (Signs (Headed head))) (Takes n head)).seen n l ≡ head
    unfolding full head
    taken_is_seen = ap (λ (f : ℕ → TreeHead). f l) (update_here n (update l head (full.seen n)) full.seen) ∙ update_here l head (full.seen n)

    shown_with : Shown r w l n t
    unfolding full head
    shown_with = record {
      events = suc (suc v.reached.events);
      after = apply (apply full (Signs (Headed head))) (Takes n head);
      steps = onward (onward v.reached.steps (Signs (Headed head)) (λ h. may_head)) (Takes n head) may_take;
      now = v.reached.now;
      at = ap (λ (h : TreeHead). h.at) taken_is_seen ∙ v.reached.now;
      all = λ s h q. subst (λ (g : TreeHead). s.certificate ∈ g.entries) (sym taken_is_seen) (v.all s (promise_is_found s w.past h) q);
    }

can_be_shown : (r : Rules) (k : ℕ) (w : World) → Steps r k start w → (l n t : ℕ) → r.honest_log l ≡ true → w.now ≤ t → Shown r w l n t
can_be_shown r k w run l n t honest later = let wait : Reached r w t = subst (λ (x : ℕ). Reached r w x) (omega arith) (waits r w (t - w.now)) in
    shown_with r w l t k run n honest (merges r w l t wait (promises_of w.past) (λ s m. found_is_promise s w.past m))

pub possible : (r : Rules) (k : ℕ) (w : World) → Steps r k start w → Possible r w
possible r k w run = record {
  can_be_accepted = λ a l m name key honest two. can_be_accepted r k w run a honest l m name key two;
  can_be_shown = can_be_shown r k w run;
  can_be_revoked = λ a i honest drawn fresh. can_be_revoked r w a i drawn fresh;
}
