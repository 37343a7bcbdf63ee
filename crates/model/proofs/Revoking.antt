-- What an honest authority revoked is on its lists, and nobody accepts it for longer than a list is fresh. Assumes nothing.
use Rattle.std.proofs.Common.{◌≡◌, ℕ, ◌+◌, ◌<◌, ◌≤◌, true, ◌⊎◌, List, sym, ap, ◌∙◌, subst, inl, inr, arith}
use mathlib.Core.List.Memᴰ
use Rattle.std.proofs.lemmas.Bool.{cases_lt}
use Rattle.model.specs.Lists.{◌∈◌, Rising}
use Rattle.model.specs.Objects.{Certificate, RevocationList, Revocation, Acceptance}
use Rattle.model.specs.Objects.Signed.{Issued, Listed}
use Rattle.model.specs.World.{Event, World, Happened, start, apply}
use Rattle.model.specs.World.Event.{Tick, Asks, Orders, Publishes, Signs, Merges, Takes, Revokes, Accepts}
use Rattle.model.specs.Rules.{Rules, May, Steps, Drawn, MayIssue, MayRevoke, MayList, MayAccept, Clears}
use Rattle.model.specs.Guarantees.{Revoking}
use Rattle.model.proofs.Past.{kept, has_happened, happened_before, Arose, arose_since_start, Later, InOrder, which_first}
use Rattle.model.proofs.Past.InOrder.{same, in_order, in_reverse}
use Rattle.model.proofs.Growth.{arose_by_now, happened_is_revoked}
use Rattle.model.proofs.Serials.{serials_rise, serial_was_revoked, revoked_has_serial}
use Rattle.model.proofs.Issuing.{still}

-- what is on record as revoked was revoked

revoked_now_or_before : (w : World) (e : Event) (g : Revocation) → g ∈ (apply w e).revoked → (Revokes g ≡ e) ⊎ (g ∈ w.revoked)
revoked_now_or_before w Tick g i = inr i
revoked_now_or_before w (Asks q) g i = inr i
revoked_now_or_before w (Orders s o) g i = inr i
revoked_now_or_before w (Publishes p) g i = inr i
revoked_now_or_before w (Signs s) g i = inr i
revoked_now_or_before w (Merges l c) g i = inr i
revoked_now_or_before w (Takes n h) g i = inr i
revoked_now_or_before w (Revokes f) g i = elim (Memᴰ.cases_cons i) [ inl q ↦ inl (ap Revokes q) | inr j ↦ inr j ]
revoked_now_or_before w (Accepts x) g i = inr i

pub revoked_has_happened : {r : Rules} {k : ℕ} {w : World} → Steps r k start w → (g : Revocation) → g ∈ w.revoked → Happened w (Revokes g)
revoked_has_happened {r} s g = kept r (λ u. g ∈ u.revoked → Happened u (Revokes g)) step s (λ i. elim i [ ])
  where
    step : (w : World) (e : Event) → May r w e → (g ∈ w.revoked → Happened w (Revokes g)) → g ∈ (apply w e).revoked → Happened (apply w e) (Revokes g)
    step w e m before i = elim (revoked_now_or_before w e g i) [
      | inl q ↦ subst (λ (f : Event). Happened (apply w e) f) (sym q) (has_happened w e)
      | inr j ↦ happened_before w e (Revokes g) (before j)
    ]

module _ (r : Rules) (k : ℕ) (w : World) (run : Steps r k start w) where
  revoking_arose : (g : Revocation) → Happened w (Revokes g) → Arose r start w (Revokes g)
  revoking_arose g h = arose_since_start run (Revokes g) h

  listing_arose : (b : RevocationList) → Happened w (Signs (Listed b)) → Arose r start w (Signs (Listed b))
  listing_arose b h = arose_since_start run (Signs (Listed b)) h

  pub revoked_was_drawn : (g : Revocation) → r.honest_authority g.authority ≡ true → Happened w (Revokes g) → Drawn w g.authority g.serial × (g.at ≤ w.now)
  revoked_was_drawn g honest h = let a = revoking_arose g h in
      let may : MayRevoke a.before g = a.may honest in
      let d : Drawn a.before g.authority g.serial = may.drawn in (
        record { sender = d.sender; order = d.order; ordered = still a (Orders d.sender d.order) d.ordered; authority = d.authority; serial = d.serial },
        omega (arith, may.at, arose_by_now a),
      )

  -- no serial is revoked after it was
  not_again : (g f : Revocation) → r.honest_authority f.authority ≡ true → g.authority ≡ f.authority → g.serial ≡ f.serial → Later r w (Revokes g) (Revokes f) → ⊥
  not_again g f honest p q l = let may : MayRevoke l.arose.before f = l.arose.may honest in may.once (g, l.first, p, q)

  one_revocation : (g f : Revocation) → r.honest_authority g.authority ≡ true → Happened w (Revokes g) → Happened w (Revokes f) →
      f.authority ≡ g.authority → f.serial ≡ g.serial → f ≡ g
  one_revocation g f honest h i p q = cases (which_first run (Revokes g) (Revokes f) h i)
    where
      cases : InOrder r w (Revokes g) (Revokes f) → f ≡ g
      cases (same z) = cc
      cases (in_order l) = absurd (not_again g f (ap r.honest_authority p ∙ honest) (sym p) (sym q) l)
      cases (in_reverse l) = absurd (not_again f g honest p q l)

  lists_rise : (b : RevocationList) → r.honest_authority b.authority ≡ true → Happened w (Signs (Listed b)) → Rising b.serials
  lists_rise b honest h = let a = listing_arose b h in
      let may : MayList r a.before b = a.may honest in
      subst Rising (sym may.serials) (serials_rise r.lifetime b.authority a.before.now a.before.revoked)

  listed_was_revoked : (b : RevocationList) → r.honest_authority b.authority ≡ true → Happened w (Signs (Listed b)) → (i : ℕ) → i ∈ b.serials →
      (g : Revocation) × Happened w (Revokes g) × (g.authority ≡ b.authority) × (g.serial ≡ i) × (g.at ≤ b.at) × (b.at ≤ g.at + r.lifetime)
  listed_was_revoked b honest h i m =
      let a = listing_arose b h in
      let may : MayList r a.before b = a.may honest in
      let t = serial_was_revoked r.lifetime b.authority a.before.now a.before.revoked i (subst (λ (is : List ℕ). i ∈ is) may.serials m) in
      let g = t.revocation in
      let before : Happened a.before (Revokes g) = revoked_has_happened a.steps g t.there in
      let f = arose_since_start a.steps (Revokes g) before in
      let was : MayRevoke f.before g = f.may (ap r.honest_authority t.authority ∙ honest) in
      (g, still a (Revokes g) before, t.authority, t.serial, omega (arith, was.at, may.at, arose_by_now f), omega (arith, may.at, t.recent))

  -- a revocation that came first is on the list
  listed_later : (b : RevocationList) → r.honest_authority b.authority ≡ true → (g : Revocation) → Later r w (Revokes g) (Signs (Listed b)) → g.authority ≡ b.authority →
      b.at ≤ g.at + r.lifetime → g.serial ∈ b.serials
  listed_later b honest g l p recent = let may : MayList r l.arose.before b = l.arose.may honest in
      subst (λ (is : List ℕ). g.serial ∈ is) (sym may.serials)
      (revoked_has_serial r.lifetime b.authority _ _ g (happened_is_revoked l.arose.steps g l.first) p (omega (arith, may.at)))

  -- one that came after it is of no earlier tick
  revoked_later : (b : RevocationList) → r.honest_authority b.authority ≡ true → (g : Revocation) → g.authority ≡ b.authority → Later r w (Signs (Listed b)) (Revokes g) → b.at ≤ g.at
  revoked_later b honest g p l =
      let may : MayRevoke l.arose.before g = l.arose.may (ap r.honest_authority p ∙ honest) in
      let a = arose_since_start l.arose.steps (Signs (Listed b)) l.first in
      let was : MayList r a.before b = a.may honest in
      let order : a.before.now ≤ l.arose.before.now = arose_by_now a in omega (arith, may.at, was.at)

  revoked_is_listed : (b : RevocationList) → r.honest_authority b.authority ≡ true → Happened w (Signs (Listed b)) →
      (g : Revocation) → Happened w (Revokes g) → g.authority ≡ b.authority → g.at < b.at → b.at ≤ g.at + r.lifetime → g.serial ∈ b.serials
  revoked_is_listed b honest h g i p before recent = cases (which_first run (Revokes g) (Signs (Listed b)) i h)
    where
      cases : InOrder r w (Revokes g) (Signs (Listed b)) → g.serial ∈ b.serials
      cases (same z) = let clash : ◌≡◌ {A = ℕ} 0 1 = cc in absurd (omega arith)
      cases (in_order l) = listed_later b honest g l p recent
      cases (in_reverse l) = let late : b.at ≤ g.at = revoked_later b honest g p l in absurd (omega arith)

  -- a certificate that was revoked had been issued by then, so it expires a lifetime later at the latest
  revoked_expires : (c : Certificate) → r.honest_authority c.issuer ≡ true → Happened w (Signs (Issued c)) →
      (g : Revocation) → Happened w (Revokes g) → g.authority ≡ c.issuer → g.serial ≡ c.serial → c.expiry ≤ g.at + r.lifetime
  revoked_expires c honest h g i p q = cases (which_first run (Revokes g) (Signs (Issued c)) i h)
    where
      cases : InOrder r w (Revokes g) (Signs (Issued c)) → c.expiry ≤ g.at + r.lifetime
      cases (same z) = let clash : ◌≡◌ {A = ℕ} 0 1 = cc in absurd (omega arith)
      cases (in_order l) = let may : MayIssue r l.arose.before c = l.arose.may honest in absurd (may.not_revoked (g, l.first, p, q))
      cases (in_reverse l) =
          let may : MayRevoke l.arose.before g = l.arose.may (ap r.honest_authority p ∙ honest) in
          let a = arose_since_start l.arose.steps (Signs (Issued c)) l.first in
          let was : MayIssue r a.before c = a.may honest in
          let order : a.before.now ≤ l.arose.before.now = arose_by_now a in omega (arith, may.at, was.expiry)

  -- so a list that clears it is no later than the revocation, or as late as its expiry
  pub cleared_in_time : (x : Acceptance) → MayAccept r w x → r.honest_authority x.certificate.issuer ≡ true →
      (g : Revocation) → Happened w (Revokes g) → g.authority ≡ x.certificate.issuer → g.serial ≡ x.certificate.serial → w.now ≤ g.at + r.freshness
  cleared_in_time x may honest g i p q = cases (which_first run (Revokes g) (Signs (Listed x.list)) i may.cleared.listed) (cases_lt (g.at + r.lifetime) x.list.at)
    where
      b : RevocationList
      b = x.list

      c : Clears r w x.certificate b
      c = may.cleared

      honest_list : r.honest_authority b.authority ≡ true
      honest_list = ap r.honest_authority c.issuer ∙ honest

      cases : InOrder r w (Revokes g) (Signs (Listed b)) → (g.at + r.lifetime < b.at) ⊎ (b.at ≤ g.at + r.lifetime) → w.now ≤ g.at + r.freshness
      cases (same z) t = let clash : ◌≡◌ {A = ℕ} 0 1 = cc in absurd (omega arith)
      cases (in_order l) (inl old) =
          let expires : x.certificate.expiry ≤ g.at + r.lifetime = revoked_expires x.certificate honest may.issued g i p q in
          absurd (omega (arith, may.not_expired, c.not_future))
      cases (in_order l) (inr recent) =
          absurd (c.not_revoked (subst (λ (j : ℕ). j ∈ b.serials) q (listed_later b honest_list g l (p ∙ sym c.issuer) recent)))
      cases (in_reverse l) t = let late : b.at ≤ g.at = revoked_later b honest_list g (p ∙ sym c.issuer) l in omega (arith, c.fresh)

  not_acceptable : (g : Revocation) → r.honest_authority g.authority ≡ true → Happened w (Revokes g) → g.at + r.freshness < w.now →
      (x : Acceptance) → g.authority ≡ x.certificate.issuer → g.serial ≡ x.certificate.serial → ¬ MayAccept r w x
  not_acceptable g honest i late x p q may =
      let in_time : w.now ≤ g.at + r.freshness = cleared_in_time x may (ap r.honest_authority (sym p) ∙ honest) g i p q in omega arith

-- what was accepted when it had been revoked, or was revoked later
not_accepted : {r : Rules} {k : ℕ} {w : World} → Steps r k start w → (x : Acceptance) → Happened w (Accepts x) → r.honest_authority x.certificate.issuer ≡ true →
    (g : Revocation) → Happened w (Revokes g) → g.authority ≡ x.certificate.issuer → g.serial ≡ x.certificate.serial → x.at ≤ g.at + r.freshness
not_accepted {r} {w = w} run x h honest g i p q = cases (which_first run (Revokes g) (Accepts x) i h)
  where
    cases : InOrder r w (Revokes g) (Accepts x) → x.at ≤ g.at + r.freshness
    cases (same z) = let clash : ◌≡◌ {A = ℕ} 0 1 = cc in absurd (omega arith)
    cases (in_order l) =
        let may : MayAccept r l.arose.before x = l.arose.may in
        let in_time : l.arose.before.now ≤ g.at + r.freshness = cleared_in_time r _ _ l.arose.steps x may honest g l.first p q in omega (arith, may.at)
    cases (in_reverse l) =
        let may : MayRevoke l.arose.before g = l.arose.may (ap r.honest_authority p ∙ honest) in
        let a = arose_since_start l.arose.steps (Accepts x) l.first in
        let was : MayAccept r a.before x = a.may in
        let order : a.before.now ≤ l.arose.before.now = arose_by_now a in omega (arith, may.at, was.at)

pub revoking : (r : Rules) (k : ℕ) (w : World) → Steps r k start w → Revoking r w
revoking r k w run = record {
  revoked_was_drawn = revoked_was_drawn r k w run;
  one_revocation = one_revocation r k w run;
  not_accepted = not_accepted run;
  not_acceptable = not_acceptable r k w run;
  lists_rise = lists_rise r k w run;
  listed_was_revoked = listed_was_revoked r k w run;
  revoked_is_listed = revoked_is_listed r k w run;
}
