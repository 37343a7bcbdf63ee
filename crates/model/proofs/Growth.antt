-- What only grows: time, the serials drawn, a log's entries, what a monitor has seen, what is revoked. Assumes nothing.
use Rattle.std.proofs.Common.{◌≡◌, ℕ, suc, ◌<◌, ◌≤◌, true, List, [], ◌∷◌, ◌++◌, sym, refl, ap, ◌∙◌, subst, append_assoc, append-nil, le_trans, le_refl, arith}
use mathlib.Core.List.Memᴰ
use Rattle.model.specs.Lists.{◌∈◌, Begins}
use Rattle.model.specs.Objects.{Order, TreeHead, Revocation}
use Rattle.model.specs.Objects.Signed.{Headed}
use Rattle.model.specs.World.{Sender, Event, World, Happened, apply, start, no_head, update}
use Rattle.model.specs.World.Event.{Tick, Asks, Orders, Publishes, Signs, Merges, Takes, Revokes, Accepts}
use Rattle.model.specs.Rules.{Rules, May, Steps, Extends}
use Rattle.model.proofs.Past.{kept, happened_before, Arose, arose_since_start}
use Rattle.model.proofs.Updates.{update_both, update_here}

-- time

now_after : (w : World) (e : Event) → w.now ≤ (apply w e).now
now_after w Tick = omega arith
now_after w (Asks q) = le_refl _
now_after w (Orders s o) = le_refl _
now_after w (Publishes p) = le_refl _
now_after w (Signs s) = le_refl _
now_after w (Merges l c) = le_refl _
now_after w (Takes n h) = le_refl _
now_after w (Revokes g) = le_refl _
now_after w (Accepts x) = le_refl _

pub now_grows : {r : Rules} {k : ℕ} {w v : World} → Steps r k w v → w.now ≤ v.now
now_grows {r} {w = w} s = kept r (λ u. w.now ≤ u.now) (λ u e m h. le_trans h (now_after u e)) s (le_refl _)

-- what arose is not of the future
pub arose_by_now : {r : Rules} {v w : World} {e : Event} (a : Arose r v w e) → a.before.now ≤ w.now
arose_by_now {e = e} a = le_trans (now_after a.before e) (now_grows a.since)

-- the serials that an honest authority drew

next_after : (r : Rules) (a : ℕ) → r.honest_authority a ≡ true → (w : World) (e : Event) → May r w e → w.next a ≤ (apply w e).next a
next_after r a honest w Tick m = le_refl _
next_after r a honest w (Asks q) m = le_refl _
next_after r a honest w (Orders s o) m = update_both o.authority (suc o.serial) w.next a (λ n. w.next a ≤ n)
    (λ q. let low : w.next o.authority ≤ o.serial = m (ap r.honest_authority (sym q) ∙ honest) in omega (arith, ap w.next q)) (λ q. le_refl _)
next_after r a honest w (Publishes p) m = le_refl _
next_after r a honest w (Signs s) m = le_refl _
next_after r a honest w (Merges l c) m = le_refl _
next_after r a honest w (Takes n h) m = le_refl _
next_after r a honest w (Revokes g) m = le_refl _
next_after r a honest w (Accepts x) m = le_refl _

pub drawn_below_next : {r : Rules} {k : ℕ} {w : World} → Steps r k start w → (s : Sender) (o : Order) → r.honest_authority o.authority ≡ true → Happened w (Orders s o) →
    o.serial < w.next o.authority
drawn_below_next {r} st s o honest h =
    let a = arose_since_start st (Orders s o) h in
    let a-next : o.serial < (apply a.before (Orders s o)).next o.authority =
    subst (λ (n : ℕ). o.serial < n) (sym (update_here o.authority (suc o.serial) a.before.next)) (le_refl _) in
    kept r (λ u. o.serial < u.next o.authority) (λ u e m b. le_trans b (next_after r o.authority honest u e m)) a.since a-next

-- a log's entries

begins_refl : {A : Type 0} (xs : List A) → Begins xs xs
begins_refl xs = record { more = []; is = sym (append-nil xs) }

begins_trans : {A : Type 0} {xs ys zs : List A} → Begins xs ys → Begins ys zs → Begins xs zs
begins_trans {xs = xs} b c = record { more = b.more ++ c.more; is = c.is ∙ (ap (λ ys. ys ++ c.more) b.is ∙ append_assoc xs b.more c.more) }

pub in_longer : {A : Type 0} {x : A} {xs ys : List A} → Begins xs ys → x ∈ xs → x ∈ ys
in_longer {A} {x} b i = subst (λ (zs : List A). x ∈ zs) (sym b.is) (Memᴰ.append_left b.more i)

pub entries_after : (w : World) (e : Event) (l : ℕ) → Begins (w.entries l) ((apply w e).entries l)
entries_after w Tick l = begins_refl _
entries_after w (Asks q) l = begins_refl _
entries_after w (Orders s o) l = begins_refl _
entries_after w (Publishes p) l = begins_refl _
entries_after w (Signs s) l = begins_refl _
entries_after w (Merges k c) l = update_both k (w.entries k ++ (c ∷ [])) w.entries l (λ es. Begins (w.entries l) es)
    (λ q. record { more = c ∷ []; is = ap (λ j. w.entries j ++ (c ∷ [])) (sym q) }) (λ q. begins_refl _)
entries_after w (Takes n h) l = begins_refl _
entries_after w (Revokes g) l = begins_refl _
entries_after w (Accepts x) l = begins_refl _

pub entries_grow : {r : Rules} {k : ℕ} {w v : World} → Steps r k w v → (l : ℕ) → Begins (w.entries l) (v.entries l)
entries_grow {r} {w = w} s l = kept r (λ u. Begins (w.entries l) (u.entries l)) (λ u e m b. begins_trans b (entries_after u e l)) s (begins_refl _)

-- what a monitor has seen

extends_refl : (h : TreeHead) → Extends h h
extends_refl h = record { later = le_refl _; begins = begins_refl _ }

extends_trans : {f g h : TreeHead} → Extends f g → Extends g h → Extends f h
extends_trans p q = record { later = le_trans p.later q.later; begins = begins_trans p.begins q.begins }

extends_same : {g h : TreeHead} → g ≡ h → Extends g h
extends_same {g} q = subst (λ (h : TreeHead). Extends g h) q (extends_refl g)

seen_after : (r : Rules) (w : World) (e : Event) → May r w e → (n l : ℕ) → Extends (w.seen n l) ((apply w e).seen n l)
seen_after r w Tick m n l = extends_refl _
seen_after r w (Asks q) m n l = extends_refl _
seen_after r w (Orders s o) m n l = extends_refl _
seen_after r w (Publishes p) m n l = extends_refl _
seen_after r w (Signs s) m n l = extends_refl _
seen_after r w (Merges k c) m n l = extends_refl _
seen_after r w (Takes k h) m n l = update_both k (update h.log h (w.seen k)) w.seen n (λ f. Extends (w.seen n l) (f l))
    (λ p. update_both h.log h (w.seen k) l (λ g. Extends (w.seen n l) g)
    (λ q. extends_trans (extends_same (ap (λ i. w.seen i l) p ∙ ap (w.seen k) q)) m.extends)
    (λ q. extends_same (ap (λ i. w.seen i l) p)))
    (λ p. extends_refl _)
seen_after r w (Revokes g) m n l = extends_refl _
seen_after r w (Accepts x) m n l = extends_refl _

pub seen_grows : {r : Rules} {k : ℕ} {w v : World} → Steps r k w v → (n l : ℕ) → Extends (w.seen n l) (v.seen n l)
seen_grows {r} {w = w} s n l = kept r (λ u. Extends (w.seen n l) (u.seen n l)) (λ u e m x. extends_trans x (seen_after r u e m n l)) s (extends_refl _)

-- a monitor has taken no head of a log, or one that the log signed
pub data Held (w : World) (l : ℕ) (h : TreeHead) : Type 0 where
  nothing : h ≡ no_head l → Held w l h
  signed : Happened w (Signs (Headed h)) → h.log ≡ l → Held w l h

held_after : (w : World) (e : Event) {l : ℕ} {h : TreeHead} → Held w l h → Held (apply w e) l h
held_after w e (nothing q) = nothing q
held_after w e {h = h} (signed s q) = signed (happened_before w e (Signs (Headed h)) s) q

seen_held_after : (r : Rules) (w : World) (e : Event) → May r w e → (n l : ℕ) → Held w l (w.seen n l) → Held (apply w e) l ((apply w e).seen n l)
seen_held_after r w Tick m n l x = held_after w Tick x
seen_held_after r w (Asks q) m n l x = held_after w (Asks q) x
seen_held_after r w (Orders s o) m n l x = held_after w (Orders s o) x
seen_held_after r w (Publishes p) m n l x = held_after w (Publishes p) x
seen_held_after r w (Signs s) m n l x = held_after w (Signs s) x
seen_held_after r w (Merges k c) m n l x = held_after w (Merges k c) x
seen_held_after r w (Takes k h) m n l x = let w' = apply w (Takes k h) in
    update_both k (update h.log h (w.seen k)) w.seen n (λ f. Held w' l (f l))
    (λ p. update_both h.log h (w.seen k) l (λ g. Held w' l g)
    (λ q. signed (happened_before w (Takes k h) (Signs (Headed h)) m.signed) (sym q))
    (λ q. subst (λ (i : ℕ). Held w' l (w.seen i l)) p (held_after w (Takes k h) x)))
    (λ p. held_after w (Takes k h) x)
seen_held_after r w (Revokes g) m n l x = held_after w (Revokes g) x
seen_held_after r w (Accepts y) m n l x = held_after w (Accepts y) x

pub seen_held : {r : Rules} {k : ℕ} {w : World} → Steps r k start w → (n l : ℕ) → Held w l (w.seen n l)
seen_held {r} s n l = kept r (λ u. Held u l (u.seen n l)) (λ u e m. seen_held_after r u e m n l) s (nothing refl)

-- what is revoked

revoked_after : (w : World) (e : Event) (g : Revocation) → g ∈ w.revoked → g ∈ (apply w e).revoked
revoked_after w Tick g i = i
revoked_after w (Asks q) g i = i
revoked_after w (Orders s o) g i = i
revoked_after w (Publishes p) g i = i
revoked_after w (Signs s) g i = i
revoked_after w (Merges l c) g i = i
revoked_after w (Takes n h) g i = i
revoked_after w (Revokes f) g i = Memᴰ.tail i
revoked_after w (Accepts x) g i = i

pub happened_is_revoked : {r : Rules} {k : ℕ} {w : World} → Steps r k start w → (g : Revocation) → Happened w (Revokes g) → g ∈ w.revoked
happened_is_revoked {r} s g h = let a = arose_since_start s (Revokes g) h in
    kept r (λ u. g ∈ u.revoked) (λ u e m. revoked_after u e g) a.since (Memᴰ.head refl)
