-- An authority draws challenges, issues, and revokes. Assumes nothing.
use Rattle.std.proofs.Common.{◌≡◌, ℕ, zero, suc, ◌+◌, ◌^◌, ◌<◌, ◌≤◌, true, false, ◌⊎◌, List, [], ◌∷◌, ◌++◌, length, take, Some, None, Option, sym, refl, ap, ◌∙◌, subst, inl, inr, true≢false, le_refl, arith, length-take}
use mathlib.Core.List.Memᴰ
use mathlib.Core.List.{List-discrete}
use native.Mathlib.Decide.{ℕ_discrete}
use Rattle.std.proofs.lemmas.Bool.{cond_both, cases_eq, ltb-false, leb-false, not-false}
use Rattle.model.specs.Lists.{◌∈◌}
use Rattle.model.specs.Objects.{Certificate, Order, Response, Revocation}
use Rattle.model.specs.Objects.Signed.{Issued}
use Rattle.model.specs.World.{Event, World, start, apply}
use Rattle.model.specs.World.Sender.{Somebody}
use Rattle.model.specs.World.Event.{Orders, Publishes, Signs, Revokes}
use Rattle.model.specs.Rules.{Steps, response_to}
use Rattle.model.specs.Rules.Steps.{onward}
use Rattle.wire_theory.specs.Bytes.{Bytes}
use Rattle.parties.specs.Steps.{Step, is_some}
use Rattle.parties.specs.Authority.{Account, AuthorityView, account_of, with_account, next_serial, account_for, ordered, is_response, certificate_for, issued_to, with_accounts, on_published_to, revoked_at, revoking, revokes, on_get_list, on_revoke_of, withdraw_of}
use Rattle.parties.proofs.Accounts.{account_stays, account_exchanged, another_account, as_many_accounts}
use Rattle.system.specs.Setup.{Setup, Sound, Collides, rules_of}
use Rattle.system.specs.Runs.{Sealed, State, with_authority, signing, hashing, authority_does, response_texts, AuthorityAwake, Found, step}
use Rattle.system.specs.Runs.Sealed.{SealedCertificate}
use Rattle.system.specs.Runs.Move.{Order as OrderMove, Published, Revoke, Withdraw, GetList}
use Rattle.system.specs.Stands.{order_of, SealedStands, PlaceStands, AuthorityStands, Stands, Reaches}
use Rattle.system.proofs.Framing.{also, parts_more, quiet_log, quiet_issued, quiet_revoked, heard_with, unchanged, orders_log, orders_authority, issued_log, issued_authority, revokes_log, revokes_authority}
use Rattle.system.proofs.Logs.{update_one, update_two}
use Rattle.system.proofs.Digests.{same_bytes_lem}
use Rattle.system.proofs.Faults.{some_none, same_some, no_first, no_more, unless_both}
use Rattle.system.proofs.Authorities.{as_with_authority, gets_list}

-- an account is one of those that were there, or the new one
account_appended : (i : ℕ) (xs : List Account) (x y : Account) → account_of i (xs ++ (x ∷ [])) ≡ Some y → (account_of i xs ≡ Some y) ⊎ ((i ≡ suc (length xs)) × (y ≡ x))
unfolding account_of
account_appended zero [] x y e = some_none (sym e)
account_appended zero (z ∷ xs) x y e = some_none (sym e)
account_appended (suc zero) [] x y e = inr (refl, sym (same_some e))
account_appended (suc (suc i)) [] x y e = some_none (sym e)
account_appended (suc zero) (z ∷ xs) x y e = inl e
account_appended (suc (suc i)) (z ∷ xs) x y e = elim (account_appended (suc i) xs x y e) [ inl h ↦ inl h | inr (q, r) ↦ inr (ap suc q, r) ]

length_appended : (xs : List Account) (x : Account) → length (xs ++ (x ∷ [])) ≡ suc (length xs)
length_appended [] x = refl
length_appended (y ∷ xs) x = ap suc (length_appended xs x)

-- An order

-- the order of an account, under another name for it
order_as : {a i serial : ℕ} {y z : Account} → i ≡ serial → z ≡ y → order_of a serial y ≡ order_of a i z
order_as {a} q r = λ t. order_of a (sym q t) (sym r t)

module _ (S : Setup) (s : State) (a : ℕ) (up : AuthorityAwake S s a) {w : World} {k : ℕ} (run : Steps (rules_of S) k start w) (st : Stands S s w) where
  abbrev v : AuthorityView
  v = s.authorities a

  own : AuthorityStands S w.past s.clock a v (w.next a)
  own = st.authorities a up.honest

  as_it_was : Reaches S (with_authority a v s)
  as_it_was = record { events = k; world = w; run = run; stands = as_with_authority S s a st }

  module _ (name key : Bytes) (sized : length key ≡ 32) (supplied : 16 ≤ length v.supply) (small : next_serial v < 2 ^ 63) where
    abbrev fresh : Account
    fresh = account_for name key (take 16 v.supply)

    abbrev o : Order
    o = order_of a (next_serial v) fresh

    abbrev drew : AuthorityView
    drew = ordered name key v

    drew_stands : AuthorityStands S (Orders Somebody o ∷ w.past) s.clock a drew (suc (next_serial v))
    drew_stands = record {
      number = own.number;
      early = own.early;
      drawn = ap suc (sym (length_appended v.accounts fresh));
      ordered = λ i x e. elim (account_appended i v.accounts fresh x e) [
        | inl h ↦ (Memᴰ.tail (own.ordered i x h).0, (own.ordered i x h).1, (own.ordered i x h).2, (own.ordered i x h).3)
        | inr (q, r) ↦ (
          Memᴰ.head (λ t. Orders Somebody (order_of a (q t) (r t))),
          ap (λ (y : Account). length y.nonce) r ∙ (length-take 16 v.supply ∙ omega arith),
          ap (λ (y : Account). length y.key) r ∙ sized,
          omega (arith, q),
        )
      ];
      issued = λ c q h. let (x, at, was) = own.issued c q (quiet_issued S st (orders_authority Somebody o a) c q h) in (x, account_stays c.serial v.accounts (fresh ∷ []) x at, was);
      revoked = λ g q h. let (x, at, was) = own.revoked g q (quiet_revoked S st (orders_authority Somebody o a) g q h) in (x, account_stays g.serial v.accounts (fresh ∷ []) x at, was);
      happened = λ i x t e was. elim (account_appended i v.accounts fresh x e)
          [ inl h ↦ Memᴰ.tail (own.happened i x t h was) | inr (q, r) ↦ some_none (sym was ∙ ap (λ (y : Account). y.revoked) r) ];
    }

    draws : Reaches S (with_authority a drew s)
    draws = let p = parts_more S st {fs = Orders Somebody o ∷ w.past} (λ t m. m) also (le_refl _) in record {
      events = suc k;
      world = apply w (Orders Somebody o);
      run = onward run (Orders Somebody o) (λ h. omega (arith, own.drawn));
      stands = record {
        now = st.now;
        signed = p.signed;
        wanted = p.wanted;
        published = p.published;
        logs = λ l h. p.logs l h (quiet_log S st (orders_log Somebody o l));
        authorities = λ j h. update_two a drew s.authorities (suc (next_serial v)) w.next j (λ x n. AuthorityStands S (Orders Somebody o ∷ w.past) s.clock j x n)
            (λ q. subst (λ (i : ℕ). AuthorityStands S (Orders Somebody o ∷ w.past) s.clock i drew (suc (next_serial v))) (sym q) drew_stands)
            (λ ne. p.authorities j h (quiet_issued S st (orders_authority Somebody o j)) (quiet_revoked S st (orders_authority Somebody o j)));
        seen = p.seen;
        lists = p.lists;
        kept = p.kept;
        heard = heard_with S (with_authority a drew s) (unchanged s (with_authority a drew s) refl refl refl) st (Orders Somebody o) tt;
      };
    }

  pub authority_draws : (name key : Bytes) → length key ≡ 32 → Reaches S (step S s (OrderMove a name key))
  authority_draws name key sized = unless_both _ _ _ (λ x. Reaches S (authority_does S a x [] s)) (λ n. as_it_was)
      (λ e. draws name key sized (ltb-false _ _ (no_first _ _ e)) (leb-false _ _ (no_first _ _ (no_more _ _ e))))

  pub authority_lists : Reaches S (step S s (GetList a))
  authority_lists = gets_list S s a up.honest v up.awake run (as_with_authority S s a st)

  -- A revocation

  module _ (serial : ℕ) (x : Account) (drawn : account_of serial v.accounts ≡ Some x) where
    abbrev g : Revocation
    g = record { authority = a; serial = serial; at = v.now }

    -- the accounts with another in its place: it, or one that is as it was
    exchanged : (y : Account) (i : ℕ) (z : Account) → account_of i (with_account serial y v.accounts) ≡ Some z → ((i ≡ serial) × (z ≡ y)) ⊎ (account_of i v.accounts ≡ Some z)
    exchanged y i z e = elim (cases_eq i serial) [
      | inl q ↦ inl (q, same_some (sym (subst (λ (j : ℕ). account_of j (with_account serial y v.accounts) ≡ Some z) q e) ∙ account_exchanged serial v.accounts x y drawn))
      | inr ne ↦ inr (sym (another_account serial i v.accounts y ne) ∙ e)
    ]

    -- what was so of an account is so of the one in its place
    still : (y : Account) (P : Account → Type 0) → (P x → P y) → (i : ℕ) → (z : Account) × (account_of i v.accounts ≡ Some z) × P z →
        (z : Account) × (account_of i (with_account serial y v.accounts) ≡ Some z) × P z
    still y P keep i (z, at, h) = elim (cases_eq i serial) [
      | inl q ↦ let same : z ≡ x = same_some (sym at ∙ (ap (λ (j : ℕ). account_of j v.accounts) q ∙ drawn)) in
          (y, ap (λ (j : ℕ). account_of j (with_account serial y v.accounts)) q ∙ account_exchanged serial v.accounts x y drawn, keep (subst P same h))
      | inr ne ↦ (z, another_account serial i v.accounts y ne ∙ at, h)
    ]

    counted : (y : Account) → w.next a ≡ suc (length (with_account serial y v.accounts))
    counted y = own.drawn ∙ ap suc (sym (as_many_accounts serial v.accounts y))

    module _ (fresh : is_some x.revoked ≡ false) where
      abbrev gone : AuthorityView
      gone = revoking serial x v

      not_yet : {t : ℕ} → x.revoked ≡ Some t → ⊥
      not_yet e = true≢false (sym (ap is_some e) ∙ fresh)

      revoked_before : (f : Revocation) → f.authority ≡ a → f.serial ≡ serial → Revokes f ∈ w.past → ⊥
      revoked_before f q r h = let (z, at, was) = own.revoked f q h in
          let same : z ≡ x = same_some (sym at ∙ (ap (λ (j : ℕ). account_of j v.accounts) r ∙ drawn)) in not_yet (ap (λ (y : Account). y.revoked) (sym same) ∙ was)

      gone_stands : AuthorityStands S (Revokes g ∷ w.past) s.clock a gone (w.next a)
      gone_stands = record {
        number = own.number;
        early = own.early;
        drawn = counted (revoked_at v.now x);
        ordered = λ i z e. elim (exchanged (revoked_at v.now x) i z e) [
          | inl (q, r) ↦ let (m, n, l, small) = own.ordered serial x drawn in (
            Memᴰ.tail (subst (λ (y : Order). Orders Somebody y ∈ w.past)
                (order_as q r) m),
            ap (λ (y : Account). length y.nonce) r ∙ n,
            ap (λ (y : Account). length y.key) r ∙ l,
            subst (λ (j : ℕ). j < 2 ^ 64) (sym q) small,
          )
          | inr h ↦ (Memᴰ.tail (own.ordered i z h).0, (own.ordered i z h).1, (own.ordered i z h).2, (own.ordered i z h).3)
        ];
        issued = λ c q h. still (revoked_at v.now x) (λ y. y.issued ≡ true) (λ e. e) c.serial (own.issued c q (issued_before c h));
        revoked = λ f q h. elim (Memᴰ.cases_cons h) [
          | inl z ↦ (let r : f ≡ g = cc in (
            revoked_at v.now x,
            ap (λ (y : Revocation). account_of y.serial (with_account serial (revoked_at v.now x) v.accounts)) r ∙ account_exchanged serial v.accounts x (revoked_at v.now x) drawn,
            ap (λ (y : Revocation). Some y.at) (sym r),
          ))
          | inr m ↦ still (revoked_at v.now x) (λ y. y.revoked ≡ Some f.at) (λ e. absurd (not_yet e)) f.serial (own.revoked f q m)
        ];
        happened = λ i z t e was. elim (exchanged (revoked_at v.now x) i z e) [
          | inl (q, r) ↦ Memᴰ.head (ap Revokes (revocation_as q (same_some (sym was ∙ ap (λ (y : Account). y.revoked) r))))
          | inr h ↦ Memᴰ.tail (own.happened i z t h was)
        ];
      }
        where
          issued_before : (c : Certificate) → Signs (Issued c) ∈ Revokes g ∷ w.past → Signs (Issued c) ∈ w.past
          issued_before c m = elim (Memᴰ.cases_cons m) [ inl z ↦ absurd (let q : true ≡ false = cc in true≢false q) | inr n ↦ n ]

          revocation_as : {i t : ℕ} → i ≡ serial → t ≡ v.now → ◌≡◌ {A = Revocation} (record { authority = a; serial = i; at = t }) g
          revocation_as q r = λ d. record { authority = a; serial = q d; at = r d }

      revokes_it : Reaches S (with_authority a gone s)
      revokes_it = let p = parts_more S st {fs = Revokes g ∷ w.past} (λ t m. m) also (le_refl _) in record {
        events = suc k;
        world = apply w (Revokes g);
        run = onward run (Revokes g) (λ h. record {
          drawn = record { sender = Somebody; order = order_of a serial x; ordered = (own.ordered serial x drawn).0; authority = refl; serial = refl };
          at = up.awake ∙ sym st.now;
          once = λ (f, m, q, r). revoked_before f q r m;
        });
        stands = record {
          now = st.now;
          signed = p.signed;
          wanted = p.wanted;
          published = p.published;
          logs = λ l h. p.logs l h (quiet_log S st (revokes_log g l));
          authorities = λ j h. update_one a gone s.authorities j (λ y. AuthorityStands S (Revokes g ∷ w.past) s.clock j y (w.next j))
              (λ q. subst (λ (i : ℕ). AuthorityStands S (Revokes g ∷ w.past) s.clock i gone (w.next i)) (sym q) gone_stands)
              (λ ne. p.authorities j h (quiet_issued S st (revokes_authority g j (λ q. ne (sym q)))) (quiet_revoked S st (revokes_authority g j (λ q. ne (sym q)))));
          seen = p.seen;
          lists = p.lists;
          kept = p.kept;
          heard = heard_with S (with_authority a gone s) (unchanged s (with_authority a gone s) refl refl refl) st (Revokes g) tt;
        };
      }

      revokes_and_lists : Reaches S (authority_does S a (on_get_list S.coding S.settings gone) [] s)
      revokes_and_lists = let r = revokes_it in gets_list S s a up.honest gone up.awake r.run r.stands

    pub revokes_drawn : Reaches S (authority_does S a (revokes S.coding S.settings serial x v) [] s)
    revokes_drawn = cond_both (is_some x.revoked) _ _ (λ (y : Step AuthorityView). Reaches S (authority_does S a y [] s)) (λ e. authority_lists)
        (λ e. unless_both _ _ _ (λ y. Reaches S (authority_does S a y [] s)) (λ n. as_it_was) (λ z. revokes_and_lists e))

  pub authority_revokes : (serial : ℕ) (seal : Bytes) → Reaches S (step S s (Revoke a serial seal))
  authority_revokes serial seal = by_account (account_of serial v.accounts) refl
    where
      by_account : (o : Option Account) → account_of serial v.accounts ≡ o → Reaches S (authority_does S a (on_revoke_of S.coding S.settings serial seal v o) [] s)
      by_account None e = as_it_was
      by_account (Some x) e = unless_both _ _ _ (λ y. Reaches S (authority_does S a y [] s)) (λ n. as_it_was) (λ z. revokes_drawn serial x e)

  pub authority_withdraws : (serial : ℕ) → Reaches S (step S s (Withdraw a serial))
  authority_withdraws serial = by_account (account_of serial v.accounts) refl
    where
      by_account : (o : Option Account) → account_of serial v.accounts ≡ o → Reaches S (authority_does S a (withdraw_of S.coding S.settings serial v o) [] s)
      by_account None e = as_it_was
      by_account (Some x) e = revokes_drawn serial x e

  -- A certificate

  module _ (sound : Sound S) (serial : ℕ) (x : Account) (drawn : account_of serial v.accounts ≡ Some x) (found : Option Bytes) (seen : Found S s a serial found) where
    abbrev us : List Bytes
    us = S.coding.response_text serial x.nonce x.key ∷ s.hashed

    -- the owner published the response to this very challenge, or two texts collide
    response_was_published : is_response S.coding serial x found ≡ true → (Publishes (response_to (order_of a serial x)) ∈ w.past) ⊎ Collides S us
    response_was_published e = by_found found refl e
      where
        by_place : (d : Bytes) → d ≡ S.coding.hash (S.coding.response_text serial x.nonce x.key) → PlaceStands S s.hashed w.past (record { name = x.name; found = d }) →
            (Publishes (response_to (order_of a serial x)) ∈ w.past) ⊎ Collides S us
        by_place d same f = decided (List-discrete ℕ_discrete (S.coding.response_text f.response.serial f.response.nonce f.response.key) (S.coding.response_text serial x.nonce x.key))
          where
            decided : Dec (S.coding.response_text f.response.serial f.response.nonce f.response.key ≡ S.coding.response_text serial x.nonce x.key) →
                (Publishes (response_to (order_of a serial x)) ∈ w.past) ⊎ Collides S us
            decided (yes q) =
                let (m, n, l, small) = own.ordered serial x drawn in
                let (i, j, h) = sound.responses_apart f.response.serial serial f.response.nonce x.nonce f.response.key x.key f.serial small f.nonce n f.key l q in
                inl (subst (λ (r : Response). Publishes r ∈ w.past) (λ t. record { name = f.name t; key = h t; serial = i t; nonce = j t }) f.published)
            decided (no q) = inr (record {
              one = S.coding.response_text f.response.serial f.response.nonce f.response.key;
              other = S.coding.response_text serial x.nonce x.key;
              one_in = Memᴰ.tail f.text;
              other_in = Memᴰ.head refl;
              differ = q;
              same = f.found ∙ same;
            })

        by_found : (o : Option Bytes) → found ≡ o → is_response S.coding serial x o ≡ true → (Publishes (response_to (order_of a serial x)) ∈ w.past) ⊎ Collides S us
        by_found None q z = absurd (true≢false (sym z))
        by_found (Some d) q z = by_place d (same_bytes_lem _ _ z) (st.published _ (seen x drawn d q))

    module _ (unissued : x.issued ≡ false) (unrevoked : is_some x.revoked ≡ false) (published : Publishes (response_to (order_of a serial x)) ∈ w.past) where
      abbrev c : Certificate
      c = certificate_for S.coding v.number serial (v.now + S.settings.lifetime) x

      abbrev e : Event
      e = Signs (Issued c)

      abbrev gave : AuthorityView
      gave = with_accounts (with_account serial (issued_to x) v.accounts) v

      abbrev after : State
      after = hashing (S.coding.response_text serial x.nonce x.key ∷ []) (signing (SealedCertificate c ∷ []) (with_authority a gave s))

      issued_before : (d : Certificate) → d.issuer ≡ a → d.serial ≡ serial → Signs (Issued d) ∈ w.past → ⊥
      issued_before d q r h = let (z, at, was) = own.issued d q h in
          let same : z ≡ x = same_some (sym at ∙ (ap (λ (j : ℕ). account_of j v.accounts) r ∙ drawn)) in true≢false (sym was ∙ (ap (λ (y : Account). y.issued) same ∙ unissued))

      gave_stands : AuthorityStands S (e ∷ w.past) s.clock a gave (w.next a)
      gave_stands = record {
        number = own.number;
        early = own.early;
        drawn = counted serial x drawn (issued_to x);
        ordered = λ i z h. elim (exchanged serial x drawn (issued_to x) i z h) [
          | inl (q, r) ↦ let (m, n, l, small) = own.ordered serial x drawn in (
            Memᴰ.tail (subst (λ (y : Order). Orders Somebody y ∈ w.past) (order_as q r) m),
            ap (λ (y : Account). length y.nonce) r ∙ n,
            ap (λ (y : Account). length y.key) r ∙ l,
            subst (λ (j : ℕ). j < 2 ^ 64) (sym q) small,
          )
          | inr m ↦ (Memᴰ.tail (own.ordered i z m).0, (own.ordered i z m).1, (own.ordered i z m).2, (own.ordered i z m).3)
        ];
        issued = λ d q h. elim (Memᴰ.cases_cons h) [
          | inl z ↦ (let r : d ≡ c = cc in
              (issued_to x, ap (λ (y : Certificate). account_of y.serial (with_account serial (issued_to x) v.accounts)) r ∙ account_exchanged serial v.accounts x (issued_to x) drawn, refl))
          | inr m ↦ still serial x drawn (issued_to x) (λ y. y.issued ≡ true) (λ z. refl) d.serial (own.issued d q m)
        ];
        revoked = λ f q h. still serial x drawn (issued_to x) (λ y. y.revoked ≡ Some f.at) (λ z. z) f.serial (own.revoked f q (revoked_earlier f h));
        happened = λ i z t h was. elim (exchanged serial x drawn (issued_to x) i z h) [
          | inl (q, r) ↦ Memᴰ.tail (subst (λ (j : ℕ). Revokes (record { authority = a; serial = j; at = t }) ∈ w.past) (sym q) (own.happened serial x t drawn (ap (λ (y : Account). y.revoked) (sym r) ∙ was)))
          | inr m ↦ Memᴰ.tail (own.happened i z t m was)
        ];
      }
        where
          revoked_earlier : (f : Revocation) → Revokes f ∈ e ∷ w.past → Revokes f ∈ w.past
          revoked_earlier f m = elim (Memᴰ.cases_cons m) [ inl z ↦ absurd (let q : true ≡ false = cc in true≢false q) | inr n ↦ n ]

      gives : Reaches S after
      gives = let p = parts_more S st {us = us} {fs = e ∷ w.past} also also (le_refl _) in record {
        events = suc k;
        world = apply w e;
        run = onward run e (λ h. record {
          sender = Somebody;
          order = order_of a serial x;
          ordered = (own.ordered serial x drawn).0;
          published = published;
          fulfils = record { authority = sym own.number; name = refl; key = refl; serial = refl };
          expiry = ap (λ n. n + S.settings.lifetime) (up.awake ∙ sym st.now);
          not_revoked = λ (f, m, q, r). revoked_before serial x drawn unrevoked f (q ∙ own.number) r m;
          once = λ (d, m, q, r). issued_before d (q ∙ own.number) r m;
        });
        stands = record {
          now = st.now;
          signed = λ y m. elim (Memᴰ.cases_cons m) [ inl z ↦ subst (λ (u : Sealed). SealedStands S us (e ∷ w.past) u) (sym z) (Memᴰ.head refl) | inr n ↦ p.signed y n ];
          wanted = p.wanted;
          published = p.published;
          logs = λ l h. p.logs l h (quiet_log S st (issued_log c l));
          authorities = λ j h. update_one a gave s.authorities j (λ y. AuthorityStands S (e ∷ w.past) s.clock j y (w.next j))
              (λ q. subst (λ (i : ℕ). AuthorityStands S (e ∷ w.past) s.clock i gave (w.next i)) (sym q) gave_stands)
              (λ ne. p.authorities j h (quiet_issued S st (issued_authority c j (λ q. ne (sym q ∙ own.number)))) (quiet_revoked S st (issued_authority c j (λ q. ne (sym q ∙ own.number)))));
          seen = p.seen;
          lists = p.lists;
          kept = p.kept;
          heard = heard_with S after (record { wanted = λ y m. m; published = λ y m. m; signed = λ y m. Memᴰ.tail m }) st e (λ h. Memᴰ.head refl);
        };
      }

  pub authority_issues : Sound S → (serial : ℕ) (found : Option Bytes) → Found S s a serial found →
      Reaches S (step S s (Published a serial found)) ⊎ Collides S (step S s (Published a serial found)).hashed
  authority_issues sound serial found seen = by_account (account_of serial v.accounts) refl
    where
      by_account : (o : Option Account) → account_of serial v.accounts ≡ o →
          Reaches S (authority_does S a (on_published_to S.coding S.settings serial found v o) (response_texts S serial o) s) ⊎
          Collides S (authority_does S a (on_published_to S.coding S.settings serial found v o) (response_texts S serial o) s).hashed
      by_account None e = inl as_it_was
      by_account (Some x) e = unless_both _ _ _ (λ y. Reaches S (authority_does S a y (response_texts S serial (Some x)) s) ⊎ Collides S (authority_does S a y (response_texts S serial (Some x)) s).hashed)
          (λ n. inl as_it_was) (λ z. elim (response_was_published sound serial x e found seen (not-false _ (no_first _ _ (no_more _ _ z))))
          [ inl m ↦ inl (gives sound serial x e found seen (no_first _ _ z) (no_first _ _ (no_more _ _ (no_more _ _ z))) m) | inr y ↦ inr y ])
