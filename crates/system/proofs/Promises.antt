-- A log promises. Assumes nothing.
use Rattle.std.proofs.Common.{◌≡◌, ℕ, suc, true, ◌⊎◌, List, [], ◌∷◌, ◌++◌, sym, refl, ap, ◌∙◌, subst, inl, inr, le_refl}
use mathlib.Core.List.Memᴰ
use Rattle.std.proofs.lemmas.Bool.{cond_both, not-false}
use Rattle.model.specs.Lists.{◌∈◌}
use Rattle.model.specs.Objects.{Certificate, Sct}
use Rattle.model.specs.Objects.Signed.{Issued, Promised}
use Rattle.model.specs.World.{Event, World, start, apply}
use Rattle.model.specs.World.Event.{Signs}
use Rattle.model.specs.Rules.{Steps}
use Rattle.model.specs.Rules.Steps.{onward}
use Rattle.wire_theory.specs.Bytes.{Bytes}
use Rattle.wire_theory.specs.Messages.{SignedSct}
use Rattle.parties.specs.Coding.{leaf_text, right_certificate}
use Rattle.parties.specs.Log.{LogView, is_merged, promised, promise_of}
use Rattle.system.specs.Setup.{Setup, Sound, Collides, rules_of}
use Rattle.system.specs.Runs.{Sealed, State, with_log, signing, hashing, Lawful, log_does, step}
use Rattle.system.specs.Runs.Sealed.{SealedCertificate, SealedSct}
use Rattle.system.specs.Runs.Move.{Submit}
use Rattle.system.specs.Stands.{sct_of, Texted, SealedStands, LogStands, Stands, Reaches}
use Rattle.system.proofs.Adding.{all_texted_more}
use Rattle.system.proofs.Framing.{also, parts_more, quiet_log, quiet_issued, quiet_revoked, heard_with, promised_log, promised_authority}
use Rattle.system.proofs.Inserting.{have_issued}
use Rattle.system.proofs.Digests.{stands_there}
use Rattle.system.proofs.Faults.{no_first, no_more, unless_both}
use Rattle.system.proofs.Logs.{update_one, as_with_log}

-- a promise with other names for its log and certificate
promise_as : {l m at : ℕ} {c d : Certificate} → l ≡ m → c ≡ d → Signs (Promised (record { log = l; certificate = c; at = at })) ≡ Signs (Promised (record { log = m; certificate = d; at = at }))
promise_as {at = at} p q = λ i. Signs (Promised (record { log = p i; certificate = q i; at = at }))

module _ (S : Setup) (sound : Sound S) (s : State) (l : ℕ) (honest : S.honest_log l ≡ true) (awake : (s.logs l).now ≡ s.clock) where
  module _ (c : Certificate) (readable : S.readable c ≡ true) {w : World} {k : ℕ} (run : Steps (rules_of S) k start w) (st : Stands S s w) (issued : Signs (Issued c) ∈ w.past) where
    given : SignedSct
    given = promise_of S.coding c (s.logs l)

    y : Sct
    y = sct_of (promise_of S.coding c (s.logs l)) c

    us : List Bytes
    us = leaf_text S.coding c ∷ s.hashed

    fs : List Event
    fs = Signs (Promised y) ∷ w.past

    texted_now : Texted S us c
    unfolding us
    texted_now = record { readable = readable; text = Memᴰ.head refl }

    own : LogStands S s.hashed w.past s.clock l (s.logs l) (w.entries l)
    own = st.logs l honest

    -- the state after it, with a view of the log that keeps the promise
    promise_with : (u : LogView) → LogStands S us fs s.clock l u (w.entries l) → Reaches S (hashing (leaf_text S.coding c ∷ []) (signing (SealedSct given ∷ []) (with_log l u s)))
    unfolding given y us fs
    promise_with u new = let p = parts_more S st {us = us} {fs = fs} also also (le_refl _) in record {
      events = suc k;
      world = apply w (Signs (Promised y));
      run = onward run (Signs (Promised y)) (λ h. record { issued = issued; at = awake ∙ sym st.now });
      stands = record {
        now = st.now;
        signed = λ x m. elim (Memᴰ.cases_cons m)
            [ inl z ↦ subst (λ (e : Sealed). SealedStands S us fs e) (sym z) (record { certificate = c; promised = Memᴰ.head refl; digest = refl; texted = texted_now }) | inr n ↦ p.signed x n ];
        wanted = p.wanted;
        published = p.published;
        logs = λ j h. update_one l u s.logs j (λ v. LogStands S us fs s.clock j v (w.entries j))
            (λ q. subst (λ (i : ℕ). LogStands S us fs s.clock i u (w.entries i)) (sym q) new)
            (λ ne. p.logs j h (quiet_log S st (promised_log y j (λ q. ne (sym q ∙ own.number)))));
        authorities = λ a h. p.authorities a h (quiet_issued S st (promised_authority y a)) (quiet_revoked S st (promised_authority y a));
        seen = p.seen;
        lists = p.lists;
        kept = p.kept;
        heard = heard_with S (hashing (leaf_text S.coding c ∷ []) (signing (SealedSct given ∷ []) (with_log l u s)))
            (record { wanted = λ x m. m; published = λ x m. m; signed = λ x m. Memᴰ.tail m }) st (Signs (Promised y)) tt;
      };
    }

    -- a promise of the log's is the new one, or an older one
    new_or_old : (x : Sct) → x.log ≡ l → Signs (Promised x) ∈ fs → (x ≡ y) ⊎ (Signs (Promised x) ∈ w.past)
    unfolding fs
    new_or_old x q m = elim (Memᴰ.cases_cons m) [ inl z ↦ inl cc | inr n ↦ inr n ]

    merged_already : c ∈ (s.logs l).merged → LogStands S us fs s.clock l (s.logs l) (w.entries l)
    unfolding y us fs
    merged_already m = record {
      number = own.number;
      early = own.early;
      same = own.same;
      merged = all_texted_more S also own.merged;
      texted = all_texted_more S also own.texted;
      owed = λ d i. Memᴰ.tail (own.owed d i);
      kept = λ x q i. elim (new_or_old x q i) [ inl z ↦ inl (subst (λ (d : Certificate). d ∈ (s.logs l).merged) (ap (λ (u : Sct). u.certificate) (sym z)) m) | inr j ↦ own.kept x q j ];
    }

    owed_now : LogStands S us fs s.clock l (record { number = (s.logs l).number; now = (s.logs l).now; merged = (s.logs l).merged; pending = (s.logs l).pending ++ (c ∷ []) }) (w.entries l)
    unfolding y us fs
    owed_now = record {
      number = own.number;
      early = own.early;
      same = own.same;
      merged = all_texted_more S also own.merged;
      texted = λ d i. elim (Memᴰ.append_cases (s.logs l).pending i)
          [ inl j ↦ all_texted_more S also own.texted d j | inr j ↦ subst (λ (x : Certificate). Texted S us x) (sym (Memᴰ.eq_of_singleton j)) texted_now ];
      owed = λ d i. elim (Memᴰ.append_cases (s.logs l).pending i) [
        | inl j ↦ Memᴰ.tail (own.owed d j)
        | inr j ↦ Memᴰ.head (promise_as (sym own.number) (Memᴰ.eq_of_singleton j))
      ];
      kept = λ x q i. elim (new_or_old x q i) [
        | inl z ↦ inr (subst (λ (d : Certificate). d ∈ (s.logs l).pending ++ (c ∷ [])) (ap (λ (u : Sct). u.certificate) (sym z)) (Memᴰ.append_right (s.logs l).pending (Memᴰ.head refl)), ap (λ (u : Sct). u.at) z)
        | inr j ↦ still x (own.kept x q j)
      ];
    }
      where
        still : (x : Sct) → (x.certificate ∈ (s.logs l).merged) ⊎ ((x.certificate ∈ (s.logs l).pending) × (x.at ≡ (s.logs l).now)) →
            (x.certificate ∈ (s.logs l).merged) ⊎ ((x.certificate ∈ (s.logs l).pending ++ (c ∷ [])) × (x.at ≡ (s.logs l).now))
        still x (inl m) = inl m
        still x (inr (m, q)) = inr (Memᴰ.append_left (c ∷ []) m, q)

    promises : Reaches S (hashing (leaf_text S.coding c ∷ []) (signing (SealedSct given ∷ []) (with_log l (promised S.coding c (s.logs l)) s))) ⊎ Collides S us
    unfolding us
    promises = cond_both (is_merged S.coding c (s.logs l)) (s.logs l) _ (λ u. Reaches S (hashing (leaf_text S.coding c ∷ []) (signing (SealedSct given ∷ []) (with_log l u s))) ⊎ Collides S us)
        (λ e. elim (stands_there S sound c (s.logs l).merged texted_now (all_texted_more S also own.merged) e) [ inl m ↦ inl (promise_with (s.logs l) (merged_already m)) | inr z ↦ inr z ])
        (λ e. inl (promise_with _ owed_now))

  -- a submission
  pub log_promises : (c : Certificate) → S.readable c ≡ true → Lawful S s (SealedCertificate c) → {w : World} {k : ℕ} → Steps (rules_of S) k start w → Stands S s w →
      Reaches S (step S s (Submit l c)) ⊎ Collides S (step S s (Submit l c)).hashed
  unfolding given us
  log_promises c readable law {w} {k} run st = unless_both _ _ _ (λ x. Reaches S (log_does S l x (leaf_text S.coding c ∷ []) s) ⊎ Collides S (log_does S l x (leaf_text S.coding c ∷ []) s).hashed)
      (λ n. inl (record { events = k; world = w; run = run; stands = as_with_log S s l st }))
      (λ e. let right : right_certificate S.coding c ≡ true = not-false _ (no_first _ _ (no_more _ _ e)) in
      let has = have_issued S run st c (λ h. st.signed (SealedCertificate c) (law h right)) in
      promises c readable has.further.run has.further.stands has.happened)
