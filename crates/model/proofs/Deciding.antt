-- Whether two certificates are the same, and whether one stands in a list. Assumes nothing.
use Rattle.std.proofs.Common.{◌≡◌, ℕ, ◌⊎◌, List, [], ◌∷◌, ap, inl, inr}
use mathlib.Core.List.Memᴰ
use mathlib.Core.List.{List-discrete}
use mathlib.Core.Logic.Dec
use native.Mathlib.Decide.{ℕ_discrete}
use Rattle.model.specs.Lists.{◌∈◌}
use Rattle.model.specs.Objects.{Certificate}

same_bytes : (s t : List ℕ) → Dec (s ≡ t)
same_bytes = List-discrete ℕ_discrete

same_certificate : (c d : Certificate) → Dec (c ≡ d)
same_certificate c d = Dec.of_iff (
  (λ (p, (q, (s, (t, (u, v))))). λ i. record { issuer = p i; name = q i; key = s i; serial = t i; expiry = u i; seal = v i }),
  λ e. (ap (λ x. x.issuer) e, (ap (λ x. x.name) e, (ap (λ x. x.key) e, (ap (λ x. x.serial) e, (ap (λ x. x.expiry) e, ap (λ x. x.seal) e))))),
)
    (Dec.and (ℕ_discrete c.issuer d.issuer) (Dec.and (same_bytes c.name d.name) (Dec.and (same_bytes c.key d.key)
    (Dec.and (ℕ_discrete c.serial d.serial) (Dec.and (ℕ_discrete c.expiry d.expiry) (same_bytes c.seal d.seal))))))

pub there_or_not : (c : Certificate) (cs : List Certificate) → (c ∈ cs) ⊎ (¬ (c ∈ cs))
there_or_not c [] = inr (λ m. elim m [ ])
there_or_not c (d ∷ cs) = step (same_certificate c d) (there_or_not c cs)
  where
    step : Dec (c ≡ d) → (c ∈ cs) ⊎ (¬ (c ∈ cs)) → (c ∈ d ∷ cs) ⊎ (¬ (c ∈ d ∷ cs))
    step (yes p) rest = inl (Memᴰ.head p)
    step (no p) (inl m) = inl (Memᴰ.tail m)
    step (no p) (inr m) = inr (λ n. elim (Memᴰ.cases_cons n) [ inl q ↦ p q | inr t ↦ m t ])
