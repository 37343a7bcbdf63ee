-- What a dishonest signer signed is put into the world's past when an honest party uses it; what an honest one signed is there already. Assumes nothing.
use Rattle.std.proofs.Common.{◌≡◌, ℕ, suc, Bool, true, false, ◌⊎◌, sym, refl, ap, ◌∙◌, inl, inr, true≢false, le_refl}
use mathlib.Core.List.Memᴰ
use Rattle.std.proofs.lemmas.Bool.{cases_Bool}
use Rattle.model.specs.Lists.{◌∈◌}
use Rattle.model.specs.Objects.{Certificate, Sct, TreeHead, RevocationList, Signed}
use Rattle.model.specs.Objects.Signed.{Issued, Promised, Headed, Listed}
use Rattle.model.specs.World.{Event, World, start, apply}
use Rattle.model.specs.World.Event.{Signs}
use Rattle.model.specs.Rules.{Steps, MaySign}
use Rattle.model.specs.Rules.Steps.{onward}
use Rattle.system.specs.Setup.{Setup, rules_of}
use Rattle.system.specs.Runs.{State}
use Rattle.system.specs.Stands.{Stands, Heard}
use Rattle.system.proofs.Adding.{Among}
use Rattle.system.proofs.Framing.{also, parts_more, QuietLog, QuietAuthority, quiet_log, quiet_issued, quiet_revoked, heard_with, unchanged, issued_log, issued_authority, promised_log, promised_authority, headed_log, headed_authority, listed_log, listed_authority}

-- a further world for which the same state stands
pub record Further (S : Setup) (s : State) (w : World) : Type 0 where
  pub events : ℕ
  pub world : World
  pub run : Steps (rules_of S) events start world
  pub stands : Stands S s world
  pub later : Among w.past world.past
  pub seen : (n l : ℕ) → world.seen n l ≡ w.seen n l

abbrev pub as_it_is : {S : Setup} {s : State} {w : World} {k : ℕ} → Steps (rules_of S) k start w → Stands S s w → Further S s w
as_it_is {w = w} {k = k} run st = record { events = k; world = w; run = run; stands = st; later = λ e m. m; seen = λ n l. refl }

-- something is signed that is nothing of an honest party's
signed_quietly : {S : Setup} {s : State} {w : World} → Stands S s w → (x : Signed) → ((l : ℕ) → S.honest_log l ≡ true → QuietLog (Signs x) l) →
    ((a : ℕ) → S.honest_authority a ≡ true → QuietAuthority (Signs x) a) → Heard S s (Signs x) → Stands S s (apply w (Signs x))
signed_quietly {S} {s} {w} st x ql qa h = let p = parts_more S st (λ t m. m) also (le_refl _) in record {
  now = st.now;
  signed = p.signed;
  wanted = p.wanted;
  published = p.published;
  logs = λ l honest. p.logs l honest (quiet_log S st (ql l honest));
  authorities = λ a honest. p.authorities a honest (quiet_issued S st (qa a honest)) (quiet_revoked S st (qa a honest));
  seen = p.seen;
  lists = p.lists;
  kept = p.kept;
  heard = heard_with S s (unchanged s s refl refl refl) st (Signs x) h;
}

-- it has happened, or it was signed by somebody dishonest and happens now
pub record Has (S : Setup) (s : State) (w : World) (e : Event) : Type 0 where
  pub further : Further S s w
  pub happened : e ∈ further.world.past

signs : {S : Setup} {s : State} {w : World} {k : ℕ} → Steps (rules_of S) k start w → (x : Signed) → MaySign (rules_of S) w x → Stands S s (apply w (Signs x)) → Has S s w (Signs x)
signs {w = w} {k = k} run x may st = record {
  further = record { events = suc k; world = apply w (Signs x); run = onward run (Signs x) may; stands = st; later = λ e m. Memᴰ.tail m; seen = λ n l. refl };
  happened = Memᴰ.head refl;
}

already : {S : Setup} {s : State} {w : World} {k : ℕ} {e : Event} → Steps (rules_of S) k start w → Stands S s w → e ∈ w.past → Has S s w e
already run st h = record { further = as_it_is run st; happened = h }

-- nobody is both honest and dishonest
pub not_both : {A : Type 0} {b : Bool} → b ≡ true → b ≡ false → A
not_both p q = absurd (true≢false (sym p ∙ q))

module _ (S : Setup) {s : State} {w : World} {k : ℕ} (run : Steps (rules_of S) k start w) (st : Stands S s w) where
  pub have_issued : (c : Certificate) → (S.honest_authority c.issuer ≡ true → Signs (Issued c) ∈ w.past) → Has S s w (Signs (Issued c))
  have_issued c honest = cases (cases_Bool (S.honest_authority c.issuer))
    where
      cases : (S.honest_authority c.issuer ≡ true) ⊎ (S.honest_authority c.issuer ≡ false) → Has S s w (Signs (Issued c))
      cases (inl t) = already run st (honest t)
      cases (inr f) = signs run (Issued c) (λ t. not_both t f)
          (signed_quietly st (Issued c) (λ l h. issued_log c l) (λ a h. issued_authority c a (λ q. not_both h (ap S.honest_authority (sym q) ∙ f))) (λ t. not_both t f))

  pub have_promised : (x : Sct) → (S.honest_log x.log ≡ true → Signs (Promised x) ∈ w.past) → Has S s w (Signs (Promised x))
  have_promised x honest = cases (cases_Bool (S.honest_log x.log))
    where
      cases : (S.honest_log x.log ≡ true) ⊎ (S.honest_log x.log ≡ false) → Has S s w (Signs (Promised x))
      cases (inl t) = already run st (honest t)
      cases (inr f) = signs run (Promised x) (λ t. not_both t f)
          (signed_quietly st (Promised x) (λ l h. promised_log x l (λ q. not_both h (ap S.honest_log (sym q) ∙ f))) (λ a h. promised_authority x a) tt)

  pub have_headed : (h : TreeHead) → (S.honest_log h.log ≡ true → Signs (Headed h) ∈ w.past) → Has S s w (Signs (Headed h))
  have_headed x honest = cases (cases_Bool (S.honest_log x.log))
    where
      cases : (S.honest_log x.log ≡ true) ⊎ (S.honest_log x.log ≡ false) → Has S s w (Signs (Headed x))
      cases (inl t) = already run st (honest t)
      cases (inr f) = signs run (Headed x) (λ t. not_both t f) (signed_quietly st (Headed x) (λ l h. headed_log x l) (λ a h. headed_authority x a) tt)

  pub have_listed : (b : RevocationList) → (S.honest_authority b.authority ≡ true → Signs (Listed b) ∈ w.past) → Has S s w (Signs (Listed b))
  have_listed b honest = cases (cases_Bool (S.honest_authority b.authority))
    where
      cases : (S.honest_authority b.authority ≡ true) ⊎ (S.honest_authority b.authority ≡ false) → Has S s w (Signs (Listed b))
      cases (inl t) = already run st (honest t)
      cases (inr f) = signs run (Listed b) (λ t. not_both t f) (signed_quietly st (Listed b) (λ l h. listed_log b l) (λ a h. listed_authority b a) tt)
