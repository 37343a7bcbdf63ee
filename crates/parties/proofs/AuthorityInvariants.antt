-- An authority's serials rise, it issues once to each, what it revoked stays so, and its lists are exact. Assumes nothing.
use Rattle.std.proofs.Common.{◌≡◌, ℕ, zero, suc, ◌+◌, ◌/◌, ◌^◌, ◌<◌, ◌≤◌, true, false, not, ◌&&◌, ltb, ◌⊎◌, List, [], ◌∷◌, ◌++◌, length, take, drop, Some, None, Option, sym, refl, ap, ◌∙◌, subst, inl, inr, true≢false, le_trans, le_refl, arith, length-append, take-append-drop}
use mathlib.Core.Bool.{false≢true}
use mathlib.Core.List.Memᴰ
use Rattle.std.proofs.lemmas.Bool.{cond_both, cases_eq, and_cases, not-false, ltb-true, ltb-false, leb-true, leb-false, le-leb}
use Rattle.model.specs.Lists.{◌∈◌}
use Rattle.model.specs.Objects.{Certificate}
use Rattle.wire_theory.specs.Bytes.{Bytes}
use Rattle.wire_theory.specs.Messages.{Message, SignedList, Settings}
use Rattle.wire_theory.specs.Messages.Message.{certificate, sct, head, list, order, challenge, published, submit, get_head, get_inclusion, get_consistency, get_entries, revoke, get_list, bring, present, inclusion, consistency, entries, answer, accepted, refused}
use Rattle.parties.specs.Coding.{Coding}
use Rattle.parties.specs.Steps.{Step, Tick, answers, ◌⇒◌, is_some, too_large}
use Rattle.parties.specs.Authority.{Account, AuthorityView, next_serial, account_of, with_account, with_accounts, account_for, ordered, is_response, certificate_for, issued_to, on_published_to, is_recent, serials_at, list_of, listing, on_get_list, revoked_at, revoking, revokes, on_revoke_of, withdraw_of, withdraw, arrived_at, must_list, on_tick, new_authority}
use Rattle.parties.specs.Handling.{kind, to_authority}
use Rattle.parties.specs.Lives.{AuthorityEvent, authority_after, AuthorityRun}
use Rattle.parties.specs.AuthorityInvariants.{Since, Draws, Issues, RevokedLately, AuthorityInvariantsHold}
use Rattle.parties.proofs.Accounts.{from_one, no_account, new_account, account_stays, account_exchanged, another_account, as_many_accounts, listed_rises, none_listed, was_revoked, is_listed, fewer_later, not_listed_yet, listed_the_same, one_more_listed}
use Rattle.parties.proofs.Compared.{same_true}
use Rattle.parties.proofs.Faults.{unless_cases, first_fault_none, no_fault, not_some, same_some}
use Rattle.parties.proofs.Runs.{kept}

-- an account to which a certificate may be issued
pub record MayIssue (K : Coding) (v : AuthorityView) (serial : ℕ) (a : Account) (found : Option Bytes) : Type 0 where
  pub drawn : account_of serial v.accounts ≡ Some a
  pub not_issued : a.issued ≡ false
  pub response : found ≡ Some (K.hash (K.response_text serial a.nonce a.key))
  pub not_revoked : a.revoked ≡ None

-- an account that may be revoked
pub record MayRevoke (s : Settings) (v : AuthorityView) (serial : ℕ) (a : Account) : Type 0 where
  pub drawn : account_of serial v.accounts ≡ Some a
  pub not_revoked : a.revoked ≡ None
  pub room : length (serials_at s v) < 1024

abbrev issuing : ℕ → Account → AuthorityView → AuthorityView
issuing serial a v = with_accounts (with_account serial (issued_to a) v.accounts) v

-- why a serial is revoked: by itself, or since the key of what was issued says so
abbrev Because : Coding → AuthorityView → Option Message → ℕ → Account → Type 0
Because K v m serial a = (m ≡ None) ⊎ ((m ≡ Some (revoke serial (K.seal_revoke v.number serial a.key))) × (a.issued ≡ true))

-- what an authority does with a message, or by itself: it refuses it, draws a serial, issues, or shows its list, perhaps with a serial that it revokes
pub data Did (K : Coding) (s : Settings) (v : AuthorityView) (found : Option Bytes) (m : Option Message) : Step AuthorityView → Type 0 where
  refuses : {step : Step AuthorityView} → step.view ≡ v → kind step.answer ≡ 31 → Did K s v found m step
  draws : (name key : Bytes) → m ≡ Some (order name key) → Did K s v found m (answers (ordered name key v) (challenge (next_serial v) (take 16 v.supply)))
  issues : (serial : ℕ) (a : Account) → m ≡ Some (published serial) → MayIssue K v serial a found →
      Did K s v found m (answers (issuing serial a v) (certificate (certificate_for K v.number serial (v.now + s.lifetime) a)))
  shows : Did K s v found m (answers (listing v) (list (list_of K s v)))
  withdraws : (serial : ℕ) (a : Account) → MayRevoke s v serial a → Because K v m serial a → Did K s v found m (answers (listing (revoking serial a v)) (list (list_of K s (revoking serial a v))))

none_there : {A : Type 0} (o : Option A) → is_some o ≡ false → o ≡ None
none_there None e = refl
none_there (Some x) e = absurd (true≢false e)

is_response_lem : (K : Coding) (serial : ℕ) (a : Account) (found : Option Bytes) → is_response K serial a found ≡ true → found ≡ Some (K.hash (K.response_text serial a.nonce a.key))
is_response_lem K serial a None e = absurd (false≢true e)
is_response_lem K serial a (Some b) e = ap Some (same_true _ _ e)

module _ (K : Coding) (s : Settings) (v : AuthorityView) (found : Option Bytes) (m : Option Message) where
  did_list : Did K s v found m (on_get_list K s v)
  did_list = unless_cases _ v _ (Did K s v found m) (λ n e. refuses refl refl) (λ e. shows)

  did_publish : (serial : ℕ) → m ≡ Some (published serial) → (o : Option Account) → account_of serial v.accounts ≡ o → Did K s v found m (on_published_to K s serial found v o)
  did_publish serial sent None e = refuses refl refl
  did_publish serial sent (Some a) e = unless_cases _ v _ (Did K s v found m) (λ n f. refuses refl refl)
      (λ none. let (unissued, none2) = first_fault_none _ _ none in
      let (unanswered, none3) = first_fault_none _ _ none2 in
      let (unrevoked, none4) = first_fault_none _ _ none3 in
      issues serial a sent
      (record { drawn = e; not_issued = unissued; response = is_response_lem K serial a found (not-false _ unanswered); not_revoked = none_there a.revoked unrevoked }))

  did_revoke : (serial : ℕ) (a : Account) → account_of serial v.accounts ≡ Some a → Because K v m serial a → Did K s v found m (revokes K s serial a v)
  did_revoke serial a e why = cond_both (is_some a.revoked) _ _ (Did K s v found m) (λ f. did_list)
      (λ unrevoked. unless_cases _ v _ (Did K s v found m) (λ n f. refuses refl refl)
      (λ none. let (room, none2) = first_fault_none _ _ none in
      let (small, none3) = first_fault_none _ _ none2 in
      unless_cases _ (revoking serial a v) _ (Did K s v found m) (λ n large. not_some n (sym large ∙ no_fault (too_large v.now ⇒ 14) small))
      (λ f. withdraws serial a (record { drawn = e; not_revoked = none_there a.revoked unrevoked; room = leb-false 1024 (length (serials_at s v)) room }) why)))

  did_revoke_of : (serial : ℕ) (seal : Bytes) → m ≡ Some (revoke serial seal) → (o : Option Account) → account_of serial v.accounts ≡ o → Did K s v found m (on_revoke_of K s serial seal v o)
  did_revoke_of serial seal sent None e = refuses refl refl
  did_revoke_of serial seal sent (Some a) e = unless_cases _ v _ (Did K s v found m) (λ n f. refuses refl refl)
      (λ none. let (unissued, none2) = first_fault_none _ _ none in
      let (unsigned, none3) = first_fault_none _ _ none2 in
      did_revoke serial a e (inr (sent ∙ ap (λ x. Some (revoke serial x)) (same_true seal _ (not-false _ unsigned)), not-false _ unissued)))

  did_withdraw : m ≡ None → (serial : ℕ) (o : Option Account) → account_of serial v.accounts ≡ o → Did K s v found m (withdraw_of K s serial v o)
  did_withdraw own serial None e = refuses refl refl
  did_withdraw own serial (Some a) e = did_revoke serial a e (inl own)

did : (K : Coding) (s : Settings) (found : Option Bytes) (m : Message) (v : AuthorityView) → Did K s v found (Some m) (to_authority K s found m v)
did K s found (certificate c) v = refuses refl refl
did K s found (sct p) v = refuses refl refl
did K s found (head h) v = refuses refl refl
did K s found (list b) v = refuses refl refl
did K s found (order name key) v = unless_cases _ v _ (Did K s v found (Some (order name key))) (λ n f. refuses refl refl) (λ f. draws name key refl)
did K s found (challenge serial nonce) v = refuses refl refl
did K s found (published serial) v = did_publish K s v found (Some (published serial)) serial refl (account_of serial v.accounts) refl
did K s found (submit c) v = refuses refl refl
did K s found get_head v = refuses refl refl
did K s found (get_inclusion place count) v = refuses refl refl
did K s found (get_consistency from to) v = refuses refl refl
did K s found (get_entries from to) v = refuses refl refl
did K s found (revoke serial seal) v = did_revoke_of K s v found (Some (revoke serial seal)) serial seal refl (account_of serial v.accounts) refl
did K s found get_list v = did_list K s v found (Some get_list)
did K s found (bring c p) v = refuses refl refl
did K s found (present c p q) v = refuses refl refl
did K s found (inclusion path) v = refuses refl refl
did K s found (consistency path) v = refuses refl refl
did K s found (entries cs) v = refuses refl refl
did K s found (answer a) v = refuses refl refl
did K s found accepted v = refuses refl refl
did K s found (refused cause) v = refuses refl refl

-- any event

authority_step : (K : Coding) (s : Settings) (P : AuthorityView → Type 0) → ((x : AuthorityView) → P x → P (listing x)) → (u : AuthorityView) → P u → ((t : ℕ) → u.now ≤ t → P (arrived_at t u)) →
    ((name key : Bytes) → P (ordered name key u)) → ((serial : ℕ) (a : Account) → account_of serial u.accounts ≡ Some a → P (issuing serial a u)) →
    ((serial : ℕ) (a : Account) → MayRevoke s u serial a → P (revoking serial a u)) → (e : AuthorityEvent) → P (authority_after K s e u)
authority_step K s P lists u p arrives orders issued revoked (AuthorityEvent.Ticks t) = cond_both (ltb t u.now) _ _ (λ (x : Tick AuthorityView). P x.view) (λ e. p)
    (λ e. cond_both (must_list s t u.listed && not (too_large t)) _ _ (λ (x : Tick AuthorityView). P x.view) (λ f. lists (arrived_at t u) (arrives t (ltb-false _ _ e))) (λ f. arrives t (ltb-false _ _ e)))
authority_step K s P lists u p arrives orders issued revoked (AuthorityEvent.Gets found m) = by (to_authority K s found m u) (did K s found m u)
  where
    by : (step : Step AuthorityView) → Did K s u found (Some m) step → P step.view
    by step (refuses q z) = subst P (sym q) p
    by step (draws name key q) = orders name key
    by step (issues serial a q i) = issued serial a i.drawn
    by step shows = lists u p
    by step (withdraws serial a r why) = lists (revoking serial a u) (revoked serial a r)
authority_step K s P lists u p arrives orders issued revoked (AuthorityEvent.Withdraws serial) =
    by (withdraw K s serial u) (did_withdraw K s u None None refl serial (account_of serial u.accounts) refl)
  where
    by : (step : Step AuthorityView) → Did K s u None None step → P step.view
    by step (refuses q z) = subst P (sym q) p
    by step (draws name key q) = orders name key
    by step (issues i a q z) = issued i a z.drawn
    by step shows = lists u p
    by step (withdraws i a r why) = lists (revoking i a u) (revoked i a r)

time : (K : Coding) (s : Settings) (v w : AuthorityView) → AuthorityRun K s v w → (v.now ≤ w.now) × (w.number ≡ v.number)
time K s v w r = kept (λ u. (v.now ≤ u.now) × (u.number ≡ v.number))
    (λ e u p. authority_step K s (λ x. (v.now ≤ x.now) × (x.number ≡ v.number)) (λ x q. q) u p (λ t l. (le_trans p.0 l, p.1)) (λ name key. p) (λ i a h. p) (λ i a h. p) e) r (le_refl _, refl)

-- accounts

since_itself : (a : Account) → Since a a
since_itself a = record { name = refl; key = refl; nonce = refl; issued = λ e. e; revoked = λ t e. e }

since_issued : (a b : Account) → Since a b → Since a (issued_to b)
since_issued a b h = record { name = h.name; key = h.key; nonce = h.nonce; issued = λ e. refl; revoked = h.revoked }

since_revoked : (t : ℕ) (a b : Account) → b.revoked ≡ None → Since a b → Since a (revoked_at t b)
since_revoked t a b n h = record { name = h.name; key = h.key; nonce = h.nonce; issued = h.issued; revoked = λ u e. not_some u (sym (h.revoked u e) ∙ n) }

-- what became of an account
abbrev Became : ℕ → Account → List Account → Type 0
Became serial a xs = (b : Account) × (account_of serial xs ≡ Some b) × Since a b

became_with : (serial i : ℕ) (a x y : Account) (xs : List Account) → account_of i xs ≡ Some x → (Since a x → Since a y) → Became serial a xs → Became serial a (with_account i y xs)
became_with serial i a x y xs e step (b, drawn, since) = elim (cases_eq serial i) [
  | inl q ↦ let same : b ≡ x = same_some b x (sym drawn ∙ (ap (λ j. account_of j xs) q ∙ e)) in
      (y, ap (λ j. account_of j (with_account i y xs)) q ∙ account_exchanged i xs x y e, step (subst (Since a) same since))
  | inr n ↦ (b, another_account i serial xs y n ∙ drawn, since)
]

accounts_stay : (K : Coding) (s : Settings) (v w : AuthorityView) → AuthorityRun K s v w → (serial : ℕ) (a : Account) → account_of serial v.accounts ≡ Some a → Became serial a w.accounts
accounts_stay K s v w r serial a e = kept (λ u. Became serial a u.accounts)
    (λ f u p. authority_step K s (λ x. Became serial a x.accounts) (λ x q. q) u p (λ t l. p)
    (λ name key. let (b, drawn, since) = p in (b, account_stays serial u.accounts _ b drawn, since))
    (λ i x h. became_with serial i a x (issued_to x) u.accounts h (since_issued a x) p)
    (λ i x h. became_with serial i a x (revoked_at u.now x) u.accounts h.drawn (since_revoked u.now a x h.not_revoked) p) f) r (a, e, since_itself a)

as_many : (K : Coding) (s : Settings) (n : ℕ) (v w : AuthorityView) → AuthorityRun K s v w → n ≤ length v.accounts → n ≤ length w.accounts
as_many K s n v w r l = kept (λ u. n ≤ length u.accounts)
    (λ f u p. authority_step K s (λ x. n ≤ length x.accounts) (λ x q. q) u p (λ t m. p)
    (λ name key. omega (arith, p, length-append u.accounts (account_for name key (take 16 u.supply) ∷ [])))
    (λ i x h. omega (arith, p, as_many_accounts i u.accounts (issued_to x)))
    (λ i x h. omega (arith, p, as_many_accounts i u.accounts (revoked_at u.now x))) f) r l

-- what it answers

same_challenge : (i j : ℕ) (x y : Bytes) → challenge i x ≡ challenge j y → (i ≡ j) × (x ≡ y)
same_challenge i j x y e = (cc, cc)

drawn_once : (K : Coding) (s : Settings) (found : Option Bytes) (m : Message) (v : AuthorityView) (serial : ℕ) (nonce : Bytes) → (to_authority K s found m v).answer ≡ challenge serial nonce →
    Draws m v (to_authority K s found m v).view serial nonce × (serial ≡ next_serial v) × (serial ≤ length (to_authority K s found m v).view.accounts)
drawn_once K s found m v serial nonce = by (to_authority K s found m v) (did K s found m v)
  where
    by : (step : Step AuthorityView) → Did K s v found (Some m) step → step.answer ≡ challenge serial nonce →
        Draws m v step.view serial nonce × (serial ≡ next_serial v) × (serial ≤ length step.view.accounts)
    by step (refuses q z) e = absurd (omega (arith, z, ap kind e))
    by step (draws name key q) e = let (i, x) = same_challenge (next_serial v) serial (take 16 v.supply) nonce e in (
      record {
        name = name;
        key = key;
        ordered = same_some m (order name key) q;
        unused = subst (λ (j : ℕ). account_of j v.accounts ≡ None) i (no_account v.accounts);
        drawn = subst (λ (j : ℕ). account_of j (ordered name key v).accounts ≡ Some (account_for name key nonce)) i
            (subst (λ (y : Bytes). account_of (next_serial v) (ordered name key v).accounts ≡ Some (account_for name key y)) x (new_account v.accounts (account_for name key (take 16 v.supply))));
        used = subst (λ (y : Bytes). v.supply ≡ y ++ drop 16 v.supply) x (sym (take-append-drop 16 v.supply));
      },
      sym i,
      omega (arith, i, length-append v.accounts (account_for name key (take 16 v.supply) ∷ [])),
    )
    by step (issues i a q z) e = absurd (omega (arith, ap kind e))
    by step shows e = absurd (omega (arith, ap kind e))
    by step (withdraws i a z why) e = absurd (omega (arith, ap kind e))

serials_rise : (K : Coding) (s : Settings) (found found' : Option Bytes) (m m' : Message) (v w : AuthorityView) (serial serial' : ℕ) (nonce nonce' : Bytes) →
    (to_authority K s found m v).answer ≡ challenge serial nonce → AuthorityRun K s (to_authority K s found m v).view w →
    (to_authority K s found' m' w).answer ≡ challenge serial' nonce' → serial < serial'
serials_rise K s found found' m m' v w serial serial' nonce nonce' e r f =
    let first : serial ≤ length (to_authority K s found m v).view.accounts = (drawn_once K s found m v serial nonce e).2 in
    let grown : serial ≤ length w.accounts = as_many K s serial (to_authority K s found m v).view w r first in
    let second : serial' ≡ next_serial w = (drawn_once K s found' m' w serial' nonce' f).1 in
    omega (arith, grown, second)

same_certificate : (c d : Certificate) → certificate c ≡ certificate d → c ≡ d
same_certificate c d e = cc

issued_right : (K : Coding) (s : Settings) (found : Option Bytes) (m : Message) (v : AuthorityView) (c : Certificate) → (to_authority K s found m v).answer ≡ certificate c →
    Issues K s m found v (to_authority K s found m v).view c
issued_right K s found m v c = by (to_authority K s found m v) (did K s found m v)
  where
    by : (step : Step AuthorityView) → Did K s v found (Some m) step → step.answer ≡ certificate c → Issues K s m found v step.view c
    by step (refuses q z) e = absurd (omega (arith, z, ap kind e))
    by step (draws name key q) e = absurd (omega (arith, ap kind e))
    by step (issues serial a q z) e = subst (Issues K s m found v (issuing serial a v)) (same_certificate (certificate_for K v.number serial (v.now + s.lifetime) a) c e) (record {
      account = a;
      told = same_some m (published serial) q;
      drawn = z.drawn;
      not_issued = z.not_issued;
      not_revoked = z.not_revoked;
      response = z.response;
      issuer = refl;
      name = refl;
      key = refl;
      expiry = refl;
      after = issued_to a;
      stays = account_exchanged serial v.accounts a (issued_to a) z.drawn;
      issued = refl;
    })
    by step shows e = absurd (omega (arith, ap kind e))
    by step (withdraws i a z why) e = absurd (omega (arith, ap kind e))

issued_once : (K : Coding) (s : Settings) (found found' : Option Bytes) (m m' : Message) (v w : AuthorityView) (c c' : Certificate) →
    (to_authority K s found m v).answer ≡ certificate c → AuthorityRun K s (to_authority K s found m v).view w →
    (to_authority K s found' m' w).answer ≡ certificate c' → ¬ (c'.serial ≡ c.serial)
issued_once K s found found' m m' v w c c' e r f same =
    let x = issued_right K s found m v c e in
    let y = issued_right K s found' m' w c' f in
    let (b, drawn, since) = accounts_stay K s (to_authority K s found m v).view w r c.serial x.after x.stays in
    let one : b ≡ y.account = same_some b y.account (sym drawn ∙ (ap (λ i. account_of i w.accounts) (sym same) ∙ y.drawn)) in
    true≢false (sym (since.issued x.issued) ∙ (ap (λ (a : Account). a.issued) one ∙ y.not_issued))

-- an account that was exchanged is the new one, and any other is as it was
exchanged_or_not : (serial i : ℕ) (a b x y : Account) (xs : List Account) → account_of serial xs ≡ Some a → account_of i xs ≡ Some x → account_of serial (with_account i y xs) ≡ Some b →
    ((serial ≡ i) × (a ≡ x) × (b ≡ y)) ⊎ (b ≡ a)
exchanged_or_not serial i a b x y xs e f g = elim (cases_eq serial i) [
  | inl q ↦ inl (q, same_some a x (sym e ∙ (ap (λ j. account_of j xs) q ∙ f)), same_some b y (sym g ∙ (ap (λ j. account_of j (with_account i y xs)) q ∙ account_exchanged i xs x y f)))
  | inr n ↦ inr (same_some b a (sym g ∙ (another_account i serial xs y n ∙ e)))
]

revoked_by_key : (K : Coding) (s : Settings) (found : Option Bytes) (m : Message) (v : AuthorityView) (serial : ℕ) (a b : Account) (t : ℕ) → account_of serial v.accounts ≡ Some a →
    a.revoked ≡ None → account_of serial (to_authority K s found m v).view.accounts ≡ Some b → b.revoked ≡ Some t →
    (m ≡ revoke serial (K.seal_revoke v.number serial a.key)) × (a.issued ≡ true) × (t ≡ v.now)
revoked_by_key K s found m v serial a b t drawn unrevoked = by (to_authority K s found m v) (did K s found m v)
  where
    Key : Type 0
    Key = (m ≡ revoke serial (K.seal_revoke v.number serial a.key)) × (a.issued ≡ true) × (t ≡ v.now)

    unchanged : b ≡ a → b.revoked ≡ Some t → Key
    unchanged q e = not_some t (sym e ∙ (ap (λ (x : Account). x.revoked) q ∙ unrevoked))

    by_key : (i : ℕ) (x : Account) → serial ≡ i → a ≡ x → t ≡ v.now → Because K v (Some m) i x → Key
    by_key i x q same now (inl own) = not_some m own
    by_key i x q same now (inr (sent, issued)) = (
      same_some m _ sent ∙ (ap (λ j. revoke j (K.seal_revoke v.number j x.key)) (sym q) ∙ ap (λ (y : Account). revoke serial (K.seal_revoke v.number serial y.key)) (sym same)),
      ap (λ (y : Account). y.issued) same ∙ issued,
      now,
    )

    by : (step : Step AuthorityView) → Did K s v found (Some m) step → account_of serial step.view.accounts ≡ Some b → b.revoked ≡ Some t → Key
    by step (refuses q z) e r = unchanged (same_some b a (sym e ∙ (ap (λ (x : AuthorityView). account_of serial x.accounts) q ∙ drawn))) r
    by step (draws name key q) e r = unchanged (same_some b a (sym e ∙ account_stays serial v.accounts _ a drawn)) r
    by step (issues i x q z) e r = elim (exchanged_or_not serial i a b x (issued_to x) v.accounts drawn z.drawn e) [
      | inl (j, same, new) ↦ not_some t (sym r ∙ (ap (λ (y : Account). y.revoked) new ∙ (ap (λ (y : Account). y.revoked) (sym same) ∙ unrevoked)))
      | inr q ↦ unchanged q r
    ]
    by step shows e r = unchanged (same_some b a (sym e ∙ drawn)) r
    by step (withdraws i x z why) e r = elim (exchanged_or_not serial i a b x (revoked_at v.now x) v.accounts drawn z.drawn e) [
      | inl (j, same, new) ↦ by_key i x j same (same_some t v.now (sym r ∙ ap (λ (y : Account). y.revoked) new)) why
      | inr q ↦ unchanged q r
    ]

same_signed : (b c : SignedList) → list b ≡ list c → c ≡ b
same_signed b c e = cc

list_is_of_now : (K : Coding) (s : Settings) (found : Option Bytes) (m : Message) (v : AuthorityView) (b : SignedList) → (to_authority K s found m v).answer ≡ list b →
    b ≡ list_of K s (to_authority K s found m v).view
list_is_of_now K s found m v b = by (to_authority K s found m v) (did K s found m v)
  where
    by : (step : Step AuthorityView) → Did K s v found (Some m) step → step.answer ≡ list b → b ≡ list_of K s step.view
    by step (refuses q z) e = absurd (omega (arith, z, ap kind e))
    by step (draws name key q) e = absurd (omega (arith, ap kind e))
    by step (issues i a q z) e = absurd (omega (arith, ap kind e))
    by step shows e = same_signed (list_of K s v) b e
    by step (withdraws i a z why) e = same_signed (list_of K s (revoking i a v)) b e

-- lists

list_is_sent : (K : Coding) (s : Settings) (t : ℕ) (v : AuthorityView) (m : Message) → m ∈ (on_tick K s t v).sends → m ≡ list (list_of K s (on_tick K s t v).view)
list_is_sent K s t v m = cond_both (ltb t v.now) _ _ (λ (x : Tick AuthorityView). m ∈ x.sends → m ≡ list (list_of K s x.view)) (λ e i. elim i [ ])
    (λ e. cond_both (must_list s t v.listed && not (too_large t)) _ _ (λ (x : Tick AuthorityView). m ∈ x.sends → m ≡ list (list_of K s x.view)) (λ f i. Memᴰ.eq_of_singleton i) (λ f i. elim i [ ]))

not_yet : (s : Settings) (t : ℕ) (o : Option ℕ) → must_list s t o ≡ false → (at : ℕ) × (o ≡ Some at) × (t ≤ at + s.freshness / 2)
not_yet s t None e = absurd (true≢false e)
not_yet s t (Some at) e = let l : t < at + s.freshness / 2 = leb-false _ _ e in (at, refl, omega (arith, l))

listed_in_time : (K : Coding) (s : Settings) (t : ℕ) (v : AuthorityView) → v.now ≤ t → t < 2 ^ 63 → (at : ℕ) × ((on_tick K s t v).view.listed ≡ Some at) × (t ≤ at + s.freshness / 2)
listed_in_time K s t v l small = cond_both (ltb t v.now) _ _ InTime (λ e. absurd (omega (arith, l, ltb-true t v.now e)))
    (λ e. cond_both (must_list s t v.listed && not (too_large t)) _ _ InTime (λ f. (t, refl, omega arith)) (λ f. elim (and_cases _ _ f) [
      | inl waits ↦ not_yet s t v.listed waits
      | inr large ↦ absurd (omega (arith, small, leb-true (2 ^ 63) t (not-false _ large)))
    ]))
  where
    InTime : Tick AuthorityView → Type 0
    InTime x = (at : ℕ) × (x.view.listed ≡ Some at) × (t ≤ at + s.freshness / 2)

recently : (l t : ℕ) (r : Option ℕ) → is_recent l t r ≡ true → (at : ℕ) × (r ≡ Some at) × (t ≤ at + l)
recently l t None e = absurd (false≢true e)
recently l t (Some at) e = (at, refl, leb-true _ _ e)

list_is_exact : (s : Settings) (v : AuthorityView) (serial : ℕ) → (serial ∈ serials_at s v → RevokedLately s v serial) × (RevokedLately s v serial → serial ∈ serials_at s v)
list_is_exact s v serial = (
  (λ m. let x = was_revoked s.lifetime v.now 1 v.accounts serial m in
      let (at, revoked, lately) = recently s.lifetime v.now x.account.revoked x.recent in
      let same : suc x.more ≡ serial = omega (arith, x.serial) in
      record { account = x.account; drawn = subst (λ (i : ℕ). account_of i v.accounts ≡ Some x.account) same x.drawn; at = at; revoked = revoked; lately = lately }),
  λ x. from serial x,
)
  where
    recent : (r : Option ℕ) (at : ℕ) → r ≡ Some at → v.now ≤ at + s.lifetime → is_recent s.lifetime v.now r ≡ true
    recent r at e l = ap (is_recent s.lifetime v.now) e ∙ le-leb _ _ l

    from : (i : ℕ) → RevokedLately s v i → i ∈ serials_at s v
    from zero x = not_some x.account (sym x.drawn ∙ from_one v.accounts)
    from (suc i) x = let same : 1 + i ≡ suc i = omega arith in subst (λ (j : ℕ). j ∈ serials_at s v) same
        (is_listed s.lifetime v.now 1 i v.accounts x.account x.drawn (recent x.account.revoked x.at x.revoked x.lately))

list_has_room : (K : Coding) (s : Settings) (number : ℕ) (supply : Bytes) (v : AuthorityView) → AuthorityRun K s (new_authority number supply) v → length (serials_at s v) ≤ 1024
list_has_room K s number supply v r = kept (λ u. length (serials_at s u) ≤ 1024)
    (λ f u p. authority_step K s (λ x. length (serials_at s x) ≤ 1024) (λ x q. q) u p
    (λ t l. le_trans (fewer_later s.lifetime u.now t 1 u.accounts l) p)
    (λ name key. subst (λ (ys : List ℕ). length ys ≤ 1024) (sym (not_listed_yet s.lifetime u.now 1 u.accounts (account_for name key (take 16 u.supply)) refl)) p)
    (λ i x h. subst (λ (ys : List ℕ). length ys ≤ 1024) (sym (listed_the_same s.lifetime u.now 1 i u.accounts x (issued_to x) h refl)) p)
    (λ i x h. le_trans (one_more_listed s.lifetime u.now 1 i u.accounts (revoked_at u.now x)) h.room) f) r
    (subst (λ (ys : List ℕ). length ys ≤ 1024) (sym (none_listed s.lifetime 0 1)) (omega arith))

pub authority_invariants_hold : AuthorityInvariantsHold
authority_invariants_hold K s = record {
  time = time K s;
  accounts_stay = accounts_stay K s;
  drawn_once = λ found m v serial nonce e. (drawn_once K s found m v serial nonce e).0;
  serials_rise = serials_rise K s;
  issued_right = issued_right K s;
  issued_once = issued_once K s;
  revoked_by_key = revoked_by_key K s;
  list_is_of_now = list_is_of_now K s;
  list_is_sent = list_is_sent K s;
  listed_in_time = listed_in_time K s;
  list_rises = λ v. listed_rises s.lifetime v.now 1 v.accounts;
  list_is_exact = list_is_exact s;
  list_has_room = list_has_room K s;
}
