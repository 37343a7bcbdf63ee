-- An authority wakes, and signs lists. Assumes nothing.
use Rattle.std.proofs.Common.{◌≡◌, ℕ, zero, suc, ◌+◌, ◌<◌, ◌≤◌, true, eqb, ltb, ◌⊎◌, List, [], ◌∷◌, Some, None, Option, sym, refl, ap, ◌∙◌, subst, inl, inr, true≢false, le_refl, arith}
use mathlib.Core.List.Memᴰ
use Rattle.std.proofs.lemmas.Bool.{cond_both, cond-true, cond-false, eq-eqb, ne_eqb, leb-true, le-leb}
use Rattle.model.specs.Lists.{◌∈◌, Rising}
use Rattle.model.specs.Objects.{Revocation}
use Rattle.model.specs.Objects.Signed.{Listed}
use Rattle.model.specs.World.{Event, World, start, apply}
use Rattle.model.specs.World.Event.{Signs}
use Rattle.model.specs.Rules.{Steps, serials_of}
use Rattle.model.specs.Rules.Steps.{onward}
use Rattle.model.proofs.Growth.{happened_is_revoked}
use Rattle.model.proofs.Revoking.{revoked_has_happened}
use Rattle.model.proofs.Serials.{serials_rise, serial_was_revoked, revoked_has_serial}
use Rattle.wire_theory.specs.Messages.{SignedList}
use Rattle.parties.specs.Steps.{Tick}
use Rattle.parties.specs.Authority.{Account, AuthorityView, account_of, is_recent, listed_from, serials_at, listing, arrived_at, on_get_list, list_of as signed_list_of}
use Rattle.parties.proofs.Accounts.{from_one, listed_rises, was_revoked, is_listed}
use Rattle.system.specs.Setup.{Setup, rules_of}
use Rattle.system.specs.Runs.{Sealed, State, with_authority, signing, signed_in_all, authority_does, step}
use Rattle.system.specs.Runs.Sealed.{SealedList}
use Rattle.system.specs.Runs.Move.{WakeAuthority}
use Rattle.system.specs.Stands.{list_of, SealedStands, AuthorityStands, Stands, Reaches}
use Rattle.system.proofs.Adding.{authority_more}
use Rattle.system.proofs.Framing.{also, parts_more, quiet_log, quiet_issued, quiet_revoked, heard_more, heard_with, unchanged, listed_log, listed_authority}
use Rattle.system.proofs.Logs.{update_one}
use Rattle.system.proofs.Faults.{some_none, unless_both}

-- an authority's view alone changed, for the same world
module _ (S : Setup) (s : State) (a : ℕ) (u : AuthorityView) {w : World} (st : Stands S (with_authority a u s) w) where
  pub other_authority : (j : ℕ) → S.honest_authority j ≡ true → ¬ (j ≡ a) → AuthorityStands S w.past s.clock j (s.authorities j) (w.next j)
  other_authority j h ne = subst (λ (x : AuthorityView). AuthorityStands S w.past s.clock j x (w.next j)) (cond-false (eqb j a) u (s.authorities j) (ne_eqb j a ne)) (st.authorities j h)

  pub own_authority : S.honest_authority a ≡ true → AuthorityStands S w.past s.clock a u (w.next a)
  own_authority h = subst (λ (x : AuthorityView). AuthorityStands S w.past s.clock a x (w.next a)) (cond-true (eqb a a) u (s.authorities a) (eq-eqb a a refl)) (st.authorities a h)

  pub with_authority_lem : (v : AuthorityView) → AuthorityStands S w.past s.clock a v (w.next a) → Stands S (with_authority a v s) w
  with_authority_lem v new = record {
    now = st.now;
    signed = st.signed;
    wanted = st.wanted;
    published = st.published;
    logs = st.logs;
    authorities = λ k honest. update_one a v s.authorities k (λ x. AuthorityStands S w.past s.clock k x (w.next k))
        (λ q. subst (λ (i : ℕ). AuthorityStands S w.past s.clock i v (w.next i)) (sym q) new) (λ ne. other_authority k honest ne);
    seen = st.seen;
    lists = st.lists;
    kept = st.kept;
    heard = λ e m. heard_more S (unchanged (with_authority a u s) (with_authority a v s) refl refl refl) e (st.heard e m);
  }

pub as_with_authority : (S : Setup) (s : State) (a : ℕ) {w : World} → Stands S s w → Stands S (with_authority a (s.authorities a) s) w
as_with_authority S s a {w} st = record {
  now = st.now;
  signed = st.signed;
  wanted = st.wanted;
  published = st.published;
  logs = st.logs;
  authorities = λ k honest. update_one a (s.authorities a) s.authorities k (λ x. AuthorityStands S w.past s.clock k x (w.next k))
      (λ q. subst (λ (i : ℕ). AuthorityStands S w.past s.clock k (s.authorities i) (w.next k)) q (st.authorities k honest)) (λ ne. st.authorities k honest);
  seen = st.seen;
  lists = st.lists;
  kept = st.kept;
  heard = λ e m. heard_more S (unchanged s (with_authority a (s.authorities a) s) refl refl refl) e (st.heard e m);
}

-- a view with another tick, or another time of its last list
pub same_accounts : (S : Setup) {es : List Event} {clock a next : ℕ} {v : AuthorityView} (t : ℕ) (listed : Option ℕ) → t ≤ clock → AuthorityStands S es clock a v next →
    AuthorityStands S es clock a (record { number = v.number; now = t; accounts = v.accounts; supply = v.supply; listed = listed }) next
same_accounts S t listed early x = record
    { number = x.number; early = early; drawn = x.drawn; ordered = x.ordered; issued = x.issued; revoked = x.revoked; happened = x.happened }

-- Lists

-- two rising lists with the same members are the same
rising_same : (xs ys : List ℕ) → Rising xs → Rising ys → ((i : ℕ) → i ∈ xs → i ∈ ys) → ((i : ℕ) → i ∈ ys → i ∈ xs) → xs ≡ ys
rising_same [] [] p q f g = refl
rising_same [] (y ∷ ys) p q f g = elim (g y (Memᴰ.head refl)) [ ]
rising_same (x ∷ xs) [] p q f g = elim (f x (Memᴰ.head refl)) [ ]
rising_same (x ∷ xs) (y ∷ ys) (above-x, p) (above-y, q) f g =
    let first : x ≡ y = heads (Memᴰ.cases_cons (f x (Memᴰ.head refl))) (Memᴰ.cases_cons (g y (Memᴰ.head refl))) in
    joined first (rising_same xs ys p q (λ i m. behind (above-x i m) first (Memᴰ.cases_cons (f i (Memᴰ.tail m)))) (λ i m. behind (above-y i m) (sym first) (Memᴰ.cases_cons (g i (Memᴰ.tail m)))))
  where
    heads : (x ≡ y) ⊎ (x ∈ ys) → (y ≡ x) ⊎ (y ∈ xs) → x ≡ y
    heads (inl e) m = e
    heads (inr m) (inl e) = sym e
    heads (inr m) (inr n) = let b : y < x = above-y x m in let c : x < y = above-x y n in absurd (omega arith)

    behind : {i a b : ℕ} {zs : List ℕ} → a < i → a ≡ b → (i ≡ b) ⊎ (i ∈ zs) → i ∈ zs
    behind l e (inl z) = absurd (omega (arith, e, z))
    behind l e (inr m) = m

    joined : x ≡ y → xs ≡ ys → ◌≡◌ {A = List ℕ} (x ∷ xs) (y ∷ ys)
    joined e r = cc

-- a recent revocation has its tick
recent_at : (lifetime t : ℕ) (o : Option ℕ) → is_recent lifetime t o ≡ true → (r : ℕ) × (o ≡ Some r) × (t ≤ r + lifetime)
recent_at lifetime t None e = absurd (true≢false (sym e))
recent_at lifetime t (Some r) e = (r, refl, leb-true _ _ e)

-- the serials that an authority lists are those that the world's list has
module _ (S : Setup) {w : World} {k : ℕ} (run : Steps (rules_of S) k start w) {clock a : ℕ} {v : AuthorityView} (x : AuthorityStands S w.past clock a v (w.next a)) (t : ℕ) where
  listed_in_world : (i : ℕ) → i ∈ listed_from S.settings.lifetime t 1 v.accounts → i ∈ serials_of S.settings.lifetime a t w.revoked
  listed_in_world i m =
      let y = was_revoked S.settings.lifetime t 1 v.accounts i m in
      let (r, at, recent) = recent_at S.settings.lifetime t y.account.revoked y.recent in
      let g : Revocation = record { authority = a; serial = suc y.more; at = r } in
      subst (λ (j : ℕ). j ∈ serials_of S.settings.lifetime a t w.revoked) (omega (arith, y.serial))
      (revoked_has_serial S.settings.lifetime a t w.revoked g (happened_is_revoked run g (x.happened (suc y.more) y.account r y.drawn at)) refl recent)

  world_in_listed : (i : ℕ) → i ∈ serials_of S.settings.lifetime a t w.revoked → i ∈ listed_from S.settings.lifetime t 1 v.accounts
  world_in_listed i m = let y = serial_was_revoked S.settings.lifetime a t w.revoked i m in
      let (acc, drawn, at) = x.revoked y.revocation y.authority (revoked_has_happened run y.revocation y.there) in
      subst (λ (j : ℕ). j ∈ listed_from S.settings.lifetime t 1 v.accounts) y.serial
      (by_serial y.revocation.serial acc drawn (ap (is_recent S.settings.lifetime t) at ∙ le-leb _ _ y.recent))
    where
      by_serial : (j : ℕ) (acc : Account) → account_of j v.accounts ≡ Some acc → is_recent S.settings.lifetime t acc.revoked ≡ true → j ∈ listed_from S.settings.lifetime t 1 v.accounts
      by_serial zero acc e r = some_none (sym e ∙ from_one v.accounts)
      by_serial (suc j) acc e r = subst (λ (i : ℕ). i ∈ listed_from S.settings.lifetime t 1 v.accounts) (omega arith) (is_listed S.settings.lifetime t 1 j v.accounts acc e r)

  serials_same : listed_from S.settings.lifetime t 1 v.accounts ≡ serials_of S.settings.lifetime a t w.revoked
  serials_same = rising_same _ _ (listed_rises S.settings.lifetime t 1 v.accounts) (serials_rise S.settings.lifetime a t w.revoked) listed_in_world world_in_listed

-- it signs the list of its view
module _ (S : Setup) (s : State) (a : ℕ) (honest : S.honest_authority a ≡ true) (u : AuthorityView) (awake : u.now ≡ s.clock) {w : World} {k : ℕ} (run : Steps (rules_of S) k start w)
    (st : Stands S (with_authority a u s) w) where
  abbrev b : SignedList
  b = signed_list_of S.coding S.settings u

  abbrev e : Event
  e = Signs (Listed (list_of b))

  own : AuthorityStands S w.past s.clock a u (w.next a)
  own = own_authority S s a u st honest

  abbrev after : State
  after = signing (SealedList b ∷ []) (with_authority a (listing u) s)

  pub signs_list : Reaches S after
  signs_list = let p = parts_more S st {fs = e ∷ w.past} (λ t m. m) also (le_refl _) in record {
    events = suc k;
    world = apply w e;
    run = onward run e (λ h. record {
      at = awake ∙ sym st.now;
      serials = subst (λ (i : ℕ). serials_at S.settings u ≡ serials_of S.settings.lifetime i w.now w.revoked) (sym own.number)
          (ap (λ t. listed_from S.settings.lifetime t 1 u.accounts) (awake ∙ sym st.now) ∙ serials_same S run own w.now);
    });
    stands = record {
      now = st.now;
      signed = λ x m. elim (Memᴰ.cases_cons m) [ inl z ↦ subst (λ (y : Sealed). SealedStands S s.hashed (e ∷ w.past) y) (sym z) (Memᴰ.head refl) | inr n ↦ p.signed x n ];
      wanted = p.wanted;
      published = p.published;
      logs = λ l h. p.logs l h (quiet_log S st (listed_log (list_of b) l));
      authorities = λ j h. update_one a (listing u) s.authorities j (λ x. AuthorityStands S (e ∷ w.past) s.clock j x (w.next j))
          (λ q. subst (λ (i : ℕ). AuthorityStands S (e ∷ w.past) s.clock i (listing u) (w.next i)) (sym q)
          (same_accounts S u.now (Some u.now) own.early (authority_more S also (le_refl _) (quiet_issued S st (listed_authority (list_of b) a)) (quiet_revoked S st (listed_authority (list_of b) a)) own)))
          (λ ne. authority_more S also (le_refl _) (quiet_issued S st (listed_authority (list_of b) j)) (quiet_revoked S st (listed_authority (list_of b) j)) (other_authority S s a u st j h ne));
      seen = p.seen;
      lists = p.lists;
      kept = p.kept;
      heard = heard_with S after (record { wanted = λ x m. m; published = λ x m. m; signed = λ x m. Memᴰ.tail m }) st e tt;
    };
  }

  pub gets_list : Reaches S (authority_does S a (on_get_list S.coding S.settings u) [] s)
  gets_list = unless_both _ _ _ (λ x. Reaches S (authority_does S a x [] s)) (λ n. record { events = k; world = w; run = run; stands = st }) (λ z. signs_list)

-- it wakes, and may sign a list unasked
module _ (S : Setup) (s : State) (a : ℕ) (honest : S.honest_authority a ≡ true) {w : World} {k : ℕ} (run : Steps (rules_of S) k start w) (st : Stands S s w) where
  arrived : Stands S (with_authority a (arrived_at s.clock (s.authorities a)) s) w
  arrived = with_authority_lem S s a (s.authorities a) (as_with_authority S s a st) _ (same_accounts S s.clock (s.authorities a).listed (le_refl _) (st.authorities a honest))

  pub authority_wakes : Reaches S (step S s (WakeAuthority a))
  unfolding signed_in_all
  authority_wakes = cond_both (ltb s.clock (s.authorities a).now) _ _ (λ (x : Tick AuthorityView). Reaches S (signing (signed_in_all x.sends) (with_authority a x.view s)))
      (λ z. record { events = k; world = w; run = run; stands = as_with_authority S s a st })
      (λ z. cond_both _ _ _ (λ (x : Tick AuthorityView). Reaches S (signing (signed_in_all x.sends) (with_authority a x.view s)))
      (λ y. signs_list S s a honest (arrived_at s.clock (s.authorities a)) refl run arrived)
      (λ y. record { events = k; world = w; run = run; stands = arrived }))
