-- What was accepted was in time, promised by two logs, and cleared by a fresh list. Assumes nothing.
use Rattle.std.proofs.Common.{◌≡◌, ℕ, ◌+◌, ◌≤◌, [], ◌∷◌, sym, subst, inl, inr, arith}
use mathlib.Core.List.Memᴰ
use Rattle.model.specs.Lists.{◌∈◌}
use Rattle.model.specs.Objects.{Sct, Acceptance}
use Rattle.model.specs.Objects.Signed.{Promised, Listed}
use Rattle.model.specs.World.{World, Happened, start}
use Rattle.model.specs.World.Event.{Signs, Accepts}
use Rattle.model.specs.Rules.{Rules, Steps, Counts, Clears, MayAccept}
use Rattle.model.specs.Guarantees.{Accepting}
use Rattle.model.proofs.Growth.{arose_by_now}
use Rattle.model.proofs.Issuing.{still, accepting_arose}

module _ (r : Rules) (k : ℕ) (w : World) (run : Steps r k start w) where
  in_time : (x : Acceptance) → Happened w (Accepts x) → (x.at ≤ w.now) × (x.at ≤ x.certificate.expiry)
  in_time x h = let a = accepting_arose r k w run x h in
      let may : MayAccept r a.before x = a.may in
      let by-now : a.before.now ≤ w.now = arose_by_now a in (omega (arith, may.at), omega (arith, may.at, may.not_expired))

  two_logs : (x : Acceptance) → Happened w (Accepts x) → ¬ (x.first.log ≡ x.second.log)
  two_logs x h = let a = accepting_arose r k w run x h in
      let may : MayAccept r a.before x = a.may in may.two_logs

  -- the one or the other of the two promises counted
  counted : (u : World) (x : Acceptance) → MayAccept r u x → (s : Sct) → s ∈ x.first ∷ (x.second ∷ []) → Counts u x.certificate s
  counted u x may s m = elim (Memᴰ.cases_cons m) [
    | inl q ↦ subst (λ (t : Sct). Counts u x.certificate t) (sym q) may.first
    | inr n ↦ elim (Memᴰ.cases_cons n) [ inl q ↦ subst (λ (t : Sct). Counts u x.certificate t) (sym q) may.second | inr z ↦ elim z [ ] ]
  ]

  pub promised : (x : Acceptance) → Happened w (Accepts x) → (s : Sct) → s ∈ x.first ∷ (x.second ∷ []) →
      Happened w (Signs (Promised s)) × (s.certificate ≡ x.certificate) × (s.at ≤ x.at)
  promised x h s m = let a = accepting_arose r k w run x h in
      let may : MayAccept r a.before x = a.may in
      let c = counted a.before x may s m in (still a (Signs (Promised s)) c.promised, c.certificate, omega (arith, c.not_future, may.at))

  cleared : (x : Acceptance) → Happened w (Accepts x) →
      Happened w (Signs (Listed x.list)) × (x.list.authority ≡ x.certificate.issuer) × (x.list.at ≤ x.at) × (x.at ≤ x.list.at + r.freshness) ×
      (¬ (x.certificate.serial ∈ x.list.serials))
  cleared x h = let a = accepting_arose r k w run x h in
      let may : MayAccept r a.before x = a.may in
      let c : Clears r a.before x.certificate x.list = may.cleared in
      (still a (Signs (Listed x.list)) c.listed, c.issuer, omega (arith, c.not_future, may.at), omega (arith, c.fresh, may.at), c.not_revoked)

  pub accepting : Accepting r w
  accepting = record { in_time = in_time; two_logs = two_logs; promised = promised; cleared = cleared }
