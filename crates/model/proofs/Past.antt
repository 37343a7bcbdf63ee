-- What has happened stays so; and every event of the past was allowed when it happened. Assumes nothing.
use Rattle.std.proofs.Common.{◌≡◌, ℕ, suc, ◌⊎◌, List, ◌∷◌, sym, refl, ◌∙◌, subst, inl, inr}
use mathlib.Core.List.Memᴰ
use mathlib.Core.List.{Memᴰ}
use Rattle.model.specs.Lists.{◌∈◌}
use Rattle.model.specs.World.{Event, World, Happened, apply, start}
use Rattle.model.specs.World.Event.{Tick, Asks, Orders, Publishes, Signs, Merges, Takes, Revokes, Accepts}
use Rattle.model.specs.Rules.{Rules, May, Steps}
use Rattle.model.specs.Rules.Steps.{here, onward}

-- an event is put before all that has happened
past_after : (w : World) (e : Event) → (apply w e).past ≡ e ∷ w.past
past_after w Tick = refl
past_after w (Asks q) = refl
past_after w (Orders s o) = refl
past_after w (Publishes p) = refl
past_after w (Signs s) = refl
past_after w (Merges l c) = refl
past_after w (Takes n h) = refl
past_after w (Revokes g) = refl
past_after w (Accepts x) = refl

pub has_happened : (w : World) (e : Event) → Happened (apply w e) e
has_happened w e = subst (λ (es : List Event). e ∈ es) (sym (past_after w e)) (Memᴰ.head refl)

pub happened_before : (w : World) (f e : Event) → Happened w e → Happened (apply w f) e
happened_before w f e h = subst (λ (es : List Event). e ∈ es) (sym (past_after w f)) (Memᴰ.tail h)

pub happened_now_or_before : (w : World) (f e : Event) → Happened (apply w f) e → (e ≡ f) ⊎ Happened w e
happened_now_or_before w f e h = Memᴰ.cases_cons (subst (λ (es : List Event). e ∈ es) (past_after w f) h)

pub happened_before_another : (w : World) (f e : Event) → ¬ (e ≡ f) → Happened (apply w f) e → Happened w e
happened_before_another w f e other h = elim (happened_now_or_before w f e h) [ inl q ↦ absurd (other q) | inr g ↦ g ]

-- a property that no event undoes
pub kept : (r : Rules) (P : World → Type 0) → ((w : World) (e : Event) → May r w e → P w → P (apply w e)) → {k : ℕ} {w v : World} → Steps r k w v → P w → P v
kept r P step here p = p
kept r P step (onward {u = u} s e m) p = step u e m (kept r P step s p)

pub happened_stays : {r : Rules} {k : ℕ} {w v : World} → Steps r k w v → (e : Event) → Happened w e → Happened v e
happened_stays {r} s e h = kept r (λ w. Happened w e) (λ w f m. happened_before w f e) s h

-- how an event came into a past: before it, what let it happen, and since
pub record Arose (r : Rules) (v w : World) (e : Event) : Type 0 where
  pub events : ℕ
  pub before : World
  pub steps : Steps r events v before
  pub may : May r before e
  pub later : ℕ
  pub since : Steps r later (apply before e) w

onward_arose : {r : Rules} {v u : World} {e : Event} → Arose r v u e → (f : Event) → May r u f → Arose r v (apply u f) e
onward_arose a f m = record { events = a.events; before = a.before; steps = a.steps; may = a.may; later = suc a.later; since = onward a.since f m }

arises : {r : Rules} {k : ℕ} {v u : World} → Steps r k v u → (e f : Event) → May r u f → e ≡ f → Arose r v (apply u f) e
arises {r} {k} {v} {u} s e f m q =
    subst (λ (d : Event). Arose r v (apply u f) d) (sym q) (record { events = k; before = u; steps = s; may = m; later = 0; since = here })

-- what has happened had happened already, or was allowed when it did
pub arose : {r : Rules} {k : ℕ} {v w : World} → Steps r k v w → (e : Event) → Happened w e → Happened v e ⊎ Arose r v w e
arose here e h = inl h
arose {r} {v = v} (onward {u = u} s f m) e h = elim (happened_now_or_before u f e h) [ inl q ↦ inr (arises s e f m q) | inr g ↦ earlier (arose s e g) ]
  where
    earlier : Happened v e ⊎ Arose r v u e → Happened v e ⊎ Arose r v (apply u f) e
    earlier (inl g) = inl g
    earlier (inr a) = inr (onward_arose a f m)

-- so from the start on, it was allowed when it did
pub arose_since_start : {r : Rules} {k : ℕ} {w : World} → Steps r k start w → (e : Event) → Happened w e → Arose r start w e
arose_since_start s e h = elim (arose s e h) [ inl g ↦ elim g [ ] | inr a ↦ a ]

-- when f happened, e had happened
pub record Later (r : Rules) (w : World) (e f : Event) : Type 0 where
  pub arose : Arose r start w f
  pub first : Happened arose.before e

-- of two events that have happened, one was the first
pub data InOrder (r : Rules) (w : World) (e f : Event) : Type 0 where
  same : e ≡ f → InOrder r w e f
  in_order : Later r w e f → InOrder r w e f
  in_reverse : Later r w f e → InOrder r w e f

onward_later : {r : Rules} {u : World} {e f : Event} → Later r u e f → (d : Event) → May r u d → Later r (apply u d) e f
unfolding onward_arose
onward_later t d m = record { arose = onward_arose t.arose d m; first = t.first }

latest : {r : Rules} {k : ℕ} {u : World} → Steps r k start u → (e f d : Event) → May r u d → Happened u e → f ≡ d → Later r (apply u d) e f
latest {r} {k} {u} s e f d m h q = subst (λ (g : Event). Later r (apply u d) e g) (sym q)
    (record { arose = record { events = k; before = u; steps = s; may = m; later = 0; since = here }; first = h })

pub which_first : {r : Rules} {k : ℕ} {w : World} → Steps r k start w → (e f : Event) → Happened w e → Happened w f → InOrder r w e f
which_first here e f h g = elim h [ ]
which_first {r} (onward {u = u} s d m) e f h g = cases (happened_now_or_before u d e h) (happened_now_or_before u d f g) (which_first s e f)
  where
    onward_order : InOrder r u e f → InOrder r (apply u d) e f
    onward_order (same q) = same q
    onward_order (in_order t) = in_order (onward_later t d m)
    onward_order (in_reverse t) = in_reverse (onward_later t d m)

    cases : (e ≡ d) ⊎ Happened u e → (f ≡ d) ⊎ Happened u f → (Happened u e → Happened u f → InOrder r u e f) → InOrder r (apply u d) e f
    cases (inl p) (inl q) before = same (p ∙ sym q)
    cases (inl p) (inr y) before = in_reverse (latest s f e d m y p)
    cases (inr x) (inl q) before = in_order (latest s e f d m x q)
    cases (inr x) (inr y) before = onward_order (before x y)
