-- A relying party wakes, gets lists, accepts, and learns what became of its promises. Assumes nothing.
use Rattle.std.proofs.Common.{◌≡◌, ℕ, zero, suc, ◌+◌, ◌^◌, ◌<◌, ◌≤◌, true, false, ◌||◌, eqb, ltb, ◌⊎◌, List, [], ◌∷◌, Some, None, Option, sym, refl, ◌∙◌, subst, inl, inr, true≢false, le_refl, arith}
use mathlib.Core.List.Memᴰ
use Rattle.std.proofs.lemmas.Bool.{cond_both, cases_Bool, eqb-false, ltb-false, leb-true, leb-false, lt-leb, eq-eqb, not-false, not-true, and_parts, or_parts}
use Rattle.model.specs.Lists.{◌∈◌}
use Rattle.model.specs.Objects.{Certificate}
use Rattle.model.specs.Objects.Signed.{Issued, Promised}
use Rattle.model.specs.World.{World, start, apply}
use Rattle.model.specs.World.Event.{Signs, Accepts}
use Rattle.model.specs.Rules.{Steps}
use Rattle.model.specs.Rules.Steps.{onward}
use Rattle.wire_theory.specs.Bytes.{Bytes}
use Rattle.wire_theory.specs.Messages.{SignedSct, SignedList, MonitorAnswer}
use Rattle.parties.specs.Coding.{leaf_text, leaf_of, right_certificate, right_sct, right_list}
use Rattle.parties.specs.Steps.{first_fault, unless, too_large}
use Rattle.parties.specs.RelyingParty.{Kept, RelyingView, is_news, with_list, is_fresh, is_for, has_serial, faults_of_presented, keeping, accepts_by, settles_at, Which}
use Rattle.parties.specs.RelyingParty.Which.{First, Second}
use Rattle.system.specs.Setup.{Setup, Sound, Collides, rules_of}
use Rattle.system.specs.Runs.{State, with_relying, hashing, relying_does, Lawful, step}
use Rattle.system.specs.Runs.Sealed.{SealedCertificate, SealedSct, SealedList}
use Rattle.system.specs.Runs.Move.{WakeRelying, GiveList, Present, Settle}
use Rattle.system.specs.Stands.{sct_of, list_of, acceptance_of, Texted, SctStands, ListStands, SctKept, KeptStands, Stands, Reaches}
use Rattle.system.proofs.Adding.{texted_more}
use Rattle.system.proofs.Framing.{also, parts_more, quiet_log, quiet_issued, quiet_revoked, heard_more, heard_with, unchanged, accepts_log, accepts_authority}
use Rattle.system.proofs.Inserting.{Has, not_both, have_issued, have_promised, have_listed}
use Rattle.system.proofs.Logs.{update_one}
use Rattle.system.proofs.Digests.{same_bytes_lem, one_certificate}
use Rattle.system.proofs.Faults.{no_first, no_more, unless_both}

-- a relying party's view alone changed
pub with_relying_lem : (S : Setup) (s : State) (k : ℕ) (v : RelyingView) {w : World} → ((a : ℕ) → ListStands S w.past a (v.lists a)) → ((x : Kept) → x ∈ v.kept → KeptStands S s.hashed w.past x) →
    Stands S s w → Stands S (with_relying k v s) w
with_relying_lem S s k v {w} lists kept st = record {
  now = st.now;
  signed = st.signed;
  wanted = st.wanted;
  published = st.published;
  logs = st.logs;
  authorities = st.authorities;
  seen = st.seen;
  lists = λ j a. update_one k v s.relying j (λ x. ListStands S w.past a (x.lists a)) (λ q. lists a) (λ ne. st.lists j a);
  kept = λ j x. update_one k v s.relying j (λ y. x ∈ y.kept → KeptStands S s.hashed w.past x) (λ q. kept x) (λ ne. st.kept j x);
  heard = λ e m. heard_more S (unchanged s (with_relying k v s) refl refl refl) e (st.heard e m);
}

module _ (S : Setup) (s : State) (k : ℕ) {w : World} {j : ℕ} (run : Steps (rules_of S) j start w) (st : Stands S s w) where
  pub as_it_was : Reaches S (with_relying k (s.relying k) s)
  as_it_was = record { events = j; world = w; run = run; stands = with_relying_lem S s k (s.relying k) (st.lists k) (st.kept k) st }

  pub relying_wakes : Reaches S (step S s (WakeRelying k))
  relying_wakes = cond_both (ltb s.clock (s.relying k).now) (s.relying k) _ (λ v. Reaches S (with_relying k v s)) (λ e. as_it_was)
      (λ e. record { events = j; world = w; run = run; stands = with_relying_lem S s k _ (st.lists k) (st.kept k) st })

  -- what is settled is the same acceptance
  settled_stands : (i : ℕ) (which : Which) (a : MonitorAnswer) (ks : List Kept) → ((x : Kept) → x ∈ ks → KeptStands S s.hashed w.past x) →
      (x : Kept) → x ∈ settles_at S.coding S.settings (s.relying k).now i which a ks → KeptStands S s.hashed w.past x
  unfolding settles_at
  settled_stands i which a [] h x m = elim m [ ]
  settled_stands zero First a (y ∷ ks) h x m = elim (Memᴰ.cases_cons m) [
    | inl q ↦ subst (λ (z : Kept). KeptStands S s.hashed w.past z) (sym q) (record { accepted = (h y (Memᴰ.head refl)).accepted; texted = (h y (Memᴰ.head refl)).texted; first = (h y (Memᴰ.head refl)).first; second = (h y (Memᴰ.head refl)).second })
    | inr n ↦ h x (Memᴰ.tail n)
  ]
  settled_stands zero Second a (y ∷ ks) h x m = elim (Memᴰ.cases_cons m) [
    | inl q ↦ subst (λ (z : Kept). KeptStands S s.hashed w.past z) (sym q) (record { accepted = (h y (Memᴰ.head refl)).accepted; texted = (h y (Memᴰ.head refl)).texted; first = (h y (Memᴰ.head refl)).first; second = (h y (Memᴰ.head refl)).second })
    | inr n ↦ h x (Memᴰ.tail n)
  ]
  settled_stands (suc i) which a (y ∷ ks) h x m = elim (Memᴰ.cases_cons m)
      [ inl q ↦ h x (Memᴰ.head q) | inr n ↦ settled_stands i which a ks (λ z p. h z (Memᴰ.tail p)) x n ]

  pub relying_settles : (i : ℕ) (which : Which) (a : MonitorAnswer) → Reaches S (step S s (Settle k i which a))
  relying_settles i which a = record
      { events = j; world = w; run = run; stands = with_relying_lem S s k _ (st.lists k) (settled_stands i which a (s.relying k).kept (st.kept k)) st }

  pub relying_gets_list : (b : SignedList) → Lawful S s (SealedList b) → Reaches S (step S s (GiveList k b))
  relying_gets_list b law = unless_both _ _ _ (λ x. Reaches S (relying_does S k x [] s)) (λ n. as_it_was) (λ e.
      let right : right_list S.coding b ≡ true = not-false _ (no_first _ _ (no_more _ _ e)) in
      let has = have_listed S run st (list_of b) (λ h. st.signed (SealedList b) (law h right)) in
      let f = has.further in
      cond_both (is_news b ((s.relying k).lists b.authority)) (with_list b (s.relying k)) (s.relying k) (λ v. Reaches S (with_relying k v s))
      (λ n. record {
        events = f.events;
        world = f.world;
        run = f.run;
        stands = with_relying_lem S s k (with_list b (s.relying k))
            (λ a. update_one b.authority (Some b) (s.relying k).lists a (λ y. ListStands S f.world.past a y) (λ q. (has.happened, sym q)) (λ ne. f.stands.lists k a)) (f.stands.kept k) f.stands;
      })
      (λ n. record { events = f.events; world = f.world; run = f.run; stands = with_relying_lem S s k (s.relying k) (f.stands.lists k) (f.stands.kept k) f.stands }))

-- a serial that isn't found isn't there
not_there : (i : ℕ) (js : List ℕ) → has_serial i js ≡ false → ¬ (i ∈ js)
unfolding has_serial
not_there i [] e m = elim m [ ]
not_there i (j ∷ js) e m = let (p, q) = or_parts (eqb i j) (has_serial i js) e in
    elim (Memᴰ.cases_cons m) [ inl z ↦ true≢false (sym (eq-eqb i j z) ∙ p) | inr n ↦ not_there i js q n ]

module _ (S : Setup) (sound : Sound S) (s : State) (k : ℕ) (awake : (s.relying k).now ≡ s.clock) (c : Certificate) (readable : S.readable c ≡ true) where
  abbrev us : List Bytes
  us = leaf_text S.coding c ∷ s.hashed

  texted_now : Texted S us c
  texted_now = record { readable = readable; text = Memᴰ.head refl }

  -- a promise that verifies, for this digest, is there for this certificate
  have_sct : (p : SignedSct) → Lawful S s (SealedSct p) → right_sct S.coding p ≡ true → p.digest ≡ leaf_of S.coding c → {w : World} {j : ℕ} → Steps (rules_of S) j start w → Stands S s w →
      Has S s w (Signs (Promised (sct_of p c))) ⊎ Collides S us
  have_sct p law right digest {w} run st = cases (cases_Bool (S.honest_log p.log))
    where
      there : SctStands S s.hashed w.past p → (Signs (Promised (sct_of p c)) ∈ w.past) ⊎ Collides S us
      there x = elim (one_certificate S sound x.certificate c (texted_more S also x.texted) texted_now (x.digest ∙ digest))
          [ inl q ↦ inl (subst (λ (d : Certificate). Signs (Promised (sct_of p d)) ∈ w.past) q x.promised) | inr z ↦ inr z ]

      cases : (S.honest_log p.log ≡ true) ⊎ (S.honest_log p.log ≡ false) → Has S s w (Signs (Promised (sct_of p c))) ⊎ Collides S us
      cases (inl honest) = elim (there (st.signed (SealedSct p) (law honest right))) [ inl m ↦ inl (have_promised S run st (sct_of p c) (λ h. m)) | inr z ↦ inr z ]
      cases (inr dishonest) = inl (have_promised S run st (sct_of p c) (λ h. not_both h dishonest))

  module _ (p q : SignedSct) (b : SignedList) (none : first_fault (faults_of_presented S.coding S.settings (s.relying k).now c p q (Some b)) ≡ None) where
    abbrev t : ℕ
    t = (s.relying k).now

    abbrev item : Kept
    item = record { certificate = c; first = p; second = q; list = b; at = t; first_due = Some (suc t); second_due = Some (suc t) }

    abbrev after : State
    after = hashing (leaf_text S.coding c ∷ []) (with_relying k (keeping c p q b (s.relying k)) s)

    -- what was looked at
    seals : (right_certificate S.coding c ≡ true) × (right_sct S.coding p ≡ true) × (right_sct S.coding q ≡ true)
    seals = let (x, y) = and_parts _ _ (not-false _ (no_first _ _ (no_more _ _ none))) in let (u, v) = and_parts _ _ y in (x, u, v)

    for_both : (is_for S.coding t c p ≡ true) × (is_for S.coding t c q ≡ true) × (¬ (p.log ≡ q.log))
    for_both =
        let (x, y) = and_parts _ _ (not-false _ (no_first _ _ (no_more _ _ (no_more _ _ none)))) in
        let (u, v) = and_parts _ _ y in (x, u, eqb-false _ _ (not-true _ v))

    not_expired : t ≤ c.expiry
    not_expired = ltb-false _ _ (no_first _ _ (no_more _ _ (no_more _ _ (no_more _ _ none))))

    fresh : is_fresh S.settings t b ≡ true
    fresh = not-false _ (no_first _ _ (no_more _ _ (no_more _ _ (no_more _ _ (no_more _ _ none)))))

    not_revoked : ¬ (c.serial ∈ b.serials)
    not_revoked = not_there c.serial b.serials (no_first _ _ (no_more _ _ (no_more _ _ (no_more _ _ (no_more _ _ (no_more _ _ none))))))

    known : (S.coding.knows_log p.log ≡ true) × (S.coding.knows_log q.log ≡ true)
    known = let (x, y) = and_parts _ _ (not-false _ (no_first _ _ none)) in and_parts _ _ y

    -- a tick that is not after one that is small is small
    small_before : (n : ℕ) → n ≤ t → too_large n ≡ false
    small_before n l =
        let (x, y) = or_parts (too_large c.serial) (too_large c.expiry || too_large t) (no_first _ _ (no_more _ _ (no_more _ _ (no_more _ _ (no_more _ _ (no_more _ _ (no_more _ _ none))))))) in
        let (u, z) = or_parts (too_large c.expiry) (too_large t) y in let below : t < 2 ^ 63 = leb-false _ _ z in lt-leb _ _ (omega arith)

    kept_first : SctKept S c p
    kept_first = let (of, by) = and_parts _ _ for_both.0 in
        record { known = known.0; right = seals.1; digest = same_bytes_lem _ _ of; small = small_before p.at (leb-true _ _ by) }

    kept_second : SctKept S c q
    kept_second = let (of, by) = and_parts _ _ for_both.1 in
        record { known = known.1; right = seals.2; digest = same_bytes_lem _ _ of; small = small_before q.at (leb-true _ _ by) }

    module _ {w : World} {j : ℕ} (run : Steps (rules_of S) j start w) (st : Stands S s w) (issued : Signs (Issued c) ∈ w.past) (first : Signs (Promised (sct_of p c)) ∈ w.past)
        (second : Signs (Promised (sct_of q c)) ∈ w.past) (listed : ListStands S w.past c.issuer (Some b)) where
      accepted : Reaches S after
      accepted =
          let e = Accepts (acceptance_of item) in
          let same : t ≡ w.now = awake ∙ sym st.now in
          let (of-p, by-p) = and_parts _ _ for_both.0 in
          let (of-q, by-q) = and_parts _ _ for_both.1 in
          let (past, still) = and_parts _ _ fresh in
          let parts = parts_more S st {us = us} {fs = e ∷ w.past} also also (le_refl _) in record {
            events = suc j;
            world = apply w e;
            run = onward run e (record {
              at = same;
              issued = issued;
              not_expired = subst (λ (n : ℕ). n ≤ c.expiry) same not_expired;
              first = record { promised = first; certificate = refl; not_future = subst (λ (n : ℕ). p.at ≤ n) same (leb-true _ _ by-p) };
              second = record { promised = second; certificate = refl; not_future = subst (λ (n : ℕ). q.at ≤ n) same (leb-true _ _ by-q) };
              two_logs = for_both.2;
              cleared = record {
                listed = listed.0;
                issuer = listed.1;
                not_future = subst (λ (n : ℕ). b.at ≤ n) same (leb-true _ _ past);
                fresh = subst (λ (n : ℕ). n ≤ b.at + S.settings.freshness) same (leb-true _ _ still);
                not_revoked = not_revoked;
              };
            });
            stands = record {
              now = st.now;
              signed = parts.signed;
              wanted = parts.wanted;
              published = parts.published;
              logs = λ l h. parts.logs l h (quiet_log S st (accepts_log (acceptance_of item) l));
              authorities = λ a h. parts.authorities a h (quiet_issued S st (accepts_authority (acceptance_of item) a)) (quiet_revoked S st (accepts_authority (acceptance_of item) a));
              seen = parts.seen;
              lists = λ i a. update_one k (keeping c p q b (s.relying k)) s.relying i (λ x. ListStands S (e ∷ w.past) a (x.lists a)) (λ z. parts.lists k a) (λ ne. parts.lists i a);
              kept = λ i x. update_one k (keeping c p q b (s.relying k)) s.relying i (λ y. x ∈ y.kept → KeptStands S us (e ∷ w.past) x)
                  (λ z m. elim (Memᴰ.cases_cons m)
                  [ inl y ↦ subst (λ (u : Kept). KeptStands S us (e ∷ w.past) u) (sym y) (record { accepted = Memᴰ.head refl; texted = texted_now; first = kept_first; second = kept_second }) | inr n ↦ parts.kept k x n ])
                  (λ ne. parts.kept i x);
              heard = heard_with S after (unchanged s after refl refl refl) st e tt;
            };
          }

    -- all that it goes by has happened, or is put there
    pub accepts : Lawful S s (SealedCertificate c) → Lawful S s (SealedSct p) → Lawful S s (SealedSct q) → {w : World} {j : ℕ} → Steps (rules_of S) j start w → Stands S s w →
        (s.relying k).lists c.issuer ≡ Some b → Reaches S after ⊎ Collides S us
    accepts law law-p law-q {w} run st held =
        let issued = have_issued S run st c (λ h. st.signed (SealedCertificate c) (law h seals.0)) in
        let f = issued.further in
        elim (have_sct p law-p seals.1 (same_bytes_lem _ _ (and_parts _ _ for_both.0).0) f.run f.stands) [ inl x ↦ second issued x | inr z ↦ inr z ]
      where
        second : (x : Has S s w (Signs (Issued c))) → Has S s x.further.world (Signs (Promised (sct_of p c))) → Reaches S after ⊎ Collides S us
        second x y = elim (have_sct q law-q seals.2 (same_bytes_lem _ _ (and_parts _ _ for_both.1).0) y.further.run y.further.stands) [
          | inl z ↦ inl (accepted z.further.run z.further.stands (z.further.later _ (y.further.later _ x.happened)) (z.further.later _ y.happened) z.happened
              (subst (λ (o : Option SignedList). ListStands S z.further.world.past c.issuer o) held (z.further.stands.lists k c.issuer)))
          | inr e ↦ inr e
        ]

pub relying_presented : (S : Setup) (sound : Sound S) (s : State) (k : ℕ) → (s.relying k).now ≡ s.clock → (c : Certificate) (p q : SignedSct) → Lawful S s (SealedCertificate c) →
    Lawful S s (SealedSct p) → Lawful S s (SealedSct q) → S.readable c ≡ true → {w : World} {j : ℕ} → Steps (rules_of S) j start w → Stands S s w →
    Reaches S (step S s (Present k c p q)) ⊎ Collides S (step S s (Present k c p q)).hashed
relying_presented S sound s k awake c p q law law-p law-q readable {w} {j} run st = by_list ((s.relying k).lists c.issuer) refl
  where
    ts : List Bytes
    ts = leaf_text S.coding c ∷ []

    by_list : (o : Option SignedList) → (s.relying k).lists c.issuer ≡ o →
        Reaches S (relying_does S k (unless (faults_of_presented S.coding S.settings (s.relying k).now c p q o) (s.relying k) (accepts_by c p q (s.relying k) o)) (leaf_text S.coding c ∷ []) s) ⊎
        Collides S (relying_does S k (unless (faults_of_presented S.coding S.settings (s.relying k).now c p q o) (s.relying k) (accepts_by c p q (s.relying k) o)) (leaf_text S.coding c ∷ []) s).hashed
    by_list None e = unless_both _ _ _ (λ x. Reaches S (relying_does S k x (leaf_text S.coding c ∷ []) s) ⊎ Collides S (relying_does S k x (leaf_text S.coding c ∷ []) s).hashed)
        (λ n. inl (as_it_was S s k run st)) (λ z. inl (as_it_was S s k run st))
    by_list (Some b) e = unless_both _ _ _ (λ x. Reaches S (relying_does S k x (leaf_text S.coding c ∷ []) s) ⊎ Collides S (relying_does S k x (leaf_text S.coding c ∷ []) s).hashed)
        (λ n. inl (as_it_was S s k run st)) (λ z. accepts S sound s k awake c readable p q b z law law-p law-q run st e)
