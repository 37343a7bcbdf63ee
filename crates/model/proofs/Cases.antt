-- The worked cases are runs of the model, and end as they should. Assumes nothing.
use Rattle.std.proofs.Common.{◌≡◌, ℕ, zero, suc, ◌+◌, ◌≤◌, true, false, List, [], ◌∷◌, ◌++◌, refl, ap, subst, inl, inr, le_refl, arith}
use mathlib.Core.Bool.{false≢true}
use mathlib.Core.List.Memᴰ
use Rattle.model.specs.Lists.{◌∈◌}
use Rattle.model.specs.World.{Event, World, Happened, start, apply}
use Rattle.model.specs.Objects.{Sct}
use Rattle.model.specs.Objects.Signed.{Promised}
use Rattle.model.specs.World.Sender.{Owner}
use Rattle.model.specs.World.Event.{Tick, Signs}
use Rattle.model.specs.Rules.{Rules, May, Steps, IsRevoked, insert, serials_of}
use Rattle.model.specs.Rules.Asked.{by_order}
use Rattle.model.specs.Rules.Steps.{here, onward}
use Rattle.std.specs.List.{AllByRecursion}
use Rattle.model.specs.Cases.{Move, ticks, later, played, Holds, Case, CaseHolds, astrid, promise, due_at_ten, hidden_until_heads, hidden, order, until_revocation, from_revocation, revoked, CasesHold}
use Rattle.model.specs.Cases.Move.{Do, Wait}
use Rattle.model.proofs.Growth.{happened_is_revoked}
use Rattle.model.proofs.Possible.{joined, revoked_before_order, issued_before_order, promises_of, promises_in, promises_signed, promise_is_found}

-- moves that may be made one after the other are a run

-- a world with another name for its tick
at_tick : (r : Rules) {k : ℕ} {v : World} (w : World) (t : ℕ) → w.now ≡ t → Steps r k v w →
    Steps r k v (record { past = w.past; now = t; next = w.next; entries = w.entries; seen = w.seen; revoked = w.revoked })
at_tick r {k} {v} w t q s = subst (λ (n : ℕ). Steps r k v (record { past = w.past; now = n; next = w.next; entries = w.entries; seen = w.seen; revoked = w.revoked })) q s

waits : (r : Rules) (n : ℕ) (w : World) → (k : ℕ) × Steps r k w (later n w)
unfolding ticks
waits r zero w = (0, at_tick r w (w.now + 0) (omega arith) here)
waits r (suc n) w = let (k, s) = waits r n w in (suc k, at_tick r (apply (later n w) Tick) (w.now + suc n) (omega arith) (onward s Tick tt))

may_play : Rules → World → List Move → Type 0
may_play r w [] = Unit {0}
may_play r w (Do e ∷ ms) = May r w e × may_play r (apply w e) ms
may_play r w (Wait n ∷ ms) = may_play r (later n w) ms

plays : (r : Rules) (w : World) (ms : List Move) → may_play r w ms → (k : ℕ) × Steps r k w (played w ms)
unfolding may_play
plays r w [] m = (0, here)
plays r w (Do e ∷ ms) m = let (k, s) = plays r (apply w e) ms m.1 in joined (onward here e m.0) s
plays r w (Wait n ∷ ms) m = let (j, t) = waits r n w in let (k, s) = plays r (later n w) ms m in joined t s

case_holds : (c : Case) → may_play c.rules start c.moves → AllByRecursion (Holds c.rules (played start c.moves)) c.claims → CaseHolds c
case_holds c m claims = let (k, s) = plays c.rules start c.moves m in record { events = k; run = s; claims = claims }

may_play_on : (r : Rules) (w : World) (ms ns : List Move) → may_play r w ms → may_play r (played w ms) ns → may_play r w (ms ++ ns)
unfolding may_play
may_play_on r w [] ns p q = q
may_play_on r w (Do e ∷ ms) ns p q = (p.0, may_play_on r (apply w e) ms ns p.1 q)
may_play_on r w (Wait n ∷ ms) ns p q = may_play_on r (later n w) ms ns p q

-- what happened last, and before that; and what has happened before some ticks has happened after them

latest : {A : Type 0} {x : A} {xs : List A} → x ∈ x ∷ xs
latest = Memᴰ.head refl

earlier : {A : Type 0} {x y : A} {xs : List A} → x ∈ xs → x ∈ y ∷ xs
earlier m = Memᴰ.tail m

still : (n : ℕ) {e : Event} {es : List Event} → e ∈ es → e ∈ ticks n es
unfolding ticks
still zero m = m
still (suc n) m = earlier (still n m)

dishonest : {A : Type 0} → false ≡ true → A
dishonest h = absurd (false≢true h)

due_at_ten_lem : CaseHolds due_at_ten
unfolding may_play
due_at_ten_lem = case_holds due_at_ten (dishonest, (dishonest, (dishonest, tt))) (
  (λ e. let due : 110 ≤ 109 = e.due in omega arith),
  (record { promised = earlier (earlier latest); headed = latest; one_log = refl; due = omega arith; missing = λ m. elim m [ ] }, tt),
)

-- the honest log's one promise is kept
kept : (s : Sct) → Happened (played start hidden_until_heads) (Signs (Promised s)) → s.log ≡ 1 → s.certificate ∈ astrid 3 900 ∷ []
unfolding ticks promises_of promises_in promises_signed
kept s h q = elim (Memᴰ.cases_cons (promise_is_found s (played start hidden_until_heads).past h)) [
  | inl z ↦ absurd (omega (arith, ap (λ (x : Sct). x.log) z))
  | inr m ↦ Memᴰ.head (ap (λ (x : Sct). x.certificate) (Memᴰ.eq_of_singleton m))
]

hidden_is_seen : CaseHolds hidden
unfolding may_play
hidden_is_seen = case_holds hidden (
  dishonest,
  (
    (λ h. record { issued = latest; at = refl }),
    (
      dishonest,
      (
        dishonest,
        (
          record {
            at = refl;
            issued = earlier (earlier (earlier latest));
            not_expired = omega arith;
            first = record { promised = earlier (earlier latest); certificate = refl; not_future = le_refl 1 };
            second = record { promised = earlier latest; certificate = refl; not_future = le_refl 1 };
            two_logs = λ z. omega arith;
            cleared = record { listed = latest; issuer = refl; not_future = le_refl 1; fresh = omega arith; not_revoked = λ m. elim m [ ] };
          },
          (
            (λ h. record { sct = promise 1 1 (astrid 3 900); promised = still 10 (earlier (earlier (earlier latest))); log = refl; certificate = refl }),
            (
              (λ h. record { at = refl; entries = refl; kept = λ s g q due. kept s g q }),
              (
                dishonest,
                (
                  record { signed = earlier latest; extends = record { later = omega arith; begins = record { more = astrid 3 900 ∷ []; is = refl } } },
                  (
                    record { signed = earlier latest; extends = record { later = omega arith; begins = record { more = []; is = refl } } },
                    tt,
                  ),
                ),
              ),
            ),
          ),
        ),
      ),
    ),
  ),
) (
  latest,
  (
    record {
      promised = earlier (earlier (earlier (earlier (earlier (still 10 (earlier (earlier latest)))))));
      headed = earlier (earlier latest);
      one_log = refl;
      due = omega arith;
      missing = λ m. elim m [ ];
    },
    tt,
  ),
)

until_revocation_lem : may_play revoked.rules start until_revocation
unfolding may_play insert serials_of
until_revocation_lem = (
  (λ h. le_refl 1),
  (
    by_order order latest refl,
    (
      (λ h. record {
        sender = Owner;
        order = order;
        ordered = earlier latest;
        published = latest;
        fulfils = record { authority = refl; name = refl; key = refl; serial = refl };
        expiry = refl;
        not_revoked = λ (g, m, p, q). elim (revoked_before_order start order g m) [ ];
        once = λ (c, m, p, q). elim (issued_before_order start order c m) [ ];
      }),
      (
        dishonest,
        (
          dishonest,
          (
            (λ h. record { at = refl; serials = refl }),
            tt,
          ),
        ),
      ),
    ),
  ),
)

-- nothing was revoked by then
unrevoked : ¬ IsRevoked (played start until_revocation) 1 1
unrevoked (g, h, p, q) = let (k, s) = plays revoked.rules start until_revocation until_revocation_lem in elim (happened_is_revoked s g h) [ ]

-- what happened at the first tick
long_since : (f g h : Event) {e : Event} {es : List Event} → e ∈ es → e ∈ ticks 59 (f ∷ (g ∷ ticks 1 (h ∷ ticks 498 es)))
long_since f g h m = still 59 (earlier (earlier (still 1 (earlier (still 498 m)))))

from_revocation_lem : may_play revoked.rules (played start until_revocation) from_revocation
unfolding may_play insert serials_of
from_revocation_lem = (
  (λ h. record {
    drawn = record { sender = Owner; order = order; ordered = still 1 (earlier (still 498 (earlier (earlier (earlier (earlier latest)))))); authority = refl; serial = refl };
    at = refl;
    once = unrevoked;
  }),
  (
    (λ h. record { at = refl; serials = refl }),
    (
      record {
        at = refl;
        issued = long_since _ _ _ (earlier (earlier latest));
        not_expired = omega arith;
        first = record { promised = long_since _ _ _ (earlier latest); certificate = refl; not_future = omega arith };
        second = record { promised = long_since _ _ _ latest; certificate = refl; not_future = omega arith };
        two_logs = λ z. omega arith;
        cleared = record { listed = still 59 (earlier (earlier (still 1 latest))); issuer = refl; not_future = omega arith; fresh = omega arith; not_revoked = λ m. elim m [ ] };
      },
      tt,
    ),
  ),
)

revoked_is_refused : CaseHolds revoked
revoked_is_refused = case_holds revoked (may_play_on revoked.rules start until_revocation from_revocation until_revocation_lem from_revocation_lem)
    ((still 1 (earlier (still 59 latest)), latest), ((λ m. let fresh : 560 ≤ 559 = m.cleared.fresh in omega arith), tt))

pub cases_hold : CasesHold
cases_hold = (due_at_ten_lem, (hidden_is_seen, (revoked_is_refused, tt)))
