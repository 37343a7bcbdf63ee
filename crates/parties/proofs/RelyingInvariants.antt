-- A relying party's lists never get older, and what it accepted met all checks. Assumes nothing.
use Rattle.std.proofs.Common.{◌≡◌, ℕ, suc, ◌+◌, ◌^◌, ◌<◌, ◌≤◌, true, false, cond, ◌&&◌, eqb, ltb, ◌⊎◌, List, [], ◌∷◌, length, Some, None, Option, sym, refl, ap, ◌∙◌, subst, inl, inr, true≢false, le_trans, le_refl, arith}
use mathlib.Core.Bool.{false≢true}
use mathlib.Core.List.Memᴰ
use Rattle.std.proofs.lemmas.Bool.{cond_both, cond-true, and_parts, or_cases, or_parts, not-true, not-false, eqb-true, eqb-false, le-leb, ltb-true, ltb-false, leb-true, leb-false}
use Rattle.merkle_theory.specs.Tree.{root_from_path}
use Rattle.model.specs.Lists.{◌∈◌}
use Rattle.model.specs.Objects.{Certificate}
use Rattle.wire_theory.specs.Bytes.{Bytes}
use Rattle.wire_theory.specs.Messages.{Message, SignedSct, SignedList, Settings, MonitorAnswer}
use Rattle.wire_theory.specs.Messages.MonitorAnswer.{included, not_due, convicts, no_head_so_late}
use Rattle.wire_theory.specs.Messages.Message.{certificate, sct, head, list, order, challenge, published, submit, get_head, get_inclusion, get_consistency, get_entries, revoke, get_list, bring, present, inclusion, consistency, entries, answer, accepted, refused}
use Rattle.parties.specs.Coding.{Coding, node_of, right_head}
use Rattle.parties.specs.Steps.{Step, answers, unless, first_fault}
use Rattle.parties.specs.Evidence.{Verdict, judge}
use Rattle.parties.specs.Evidence.Verdict.{Convicts, Refused, NotSo}
use Rattle.parties.specs.RelyingParty.{Kept, RelyingView, new_relying, with_list, is_older, is_news, is_fresh, has_serial, faults_of_presented, keeping, accepts_by, is_now, brings, brings_all, leads_to, convicted, due_after, Which, settles, settles_at, on_answer}
use Rattle.parties.specs.RelyingParty.Which.{First, Second}
use Rattle.parties.specs.Handling.{kind, to_relying}
use Rattle.parties.specs.Lives.{RelyingEvent, relying_after, RelyingRun}
use Rattle.parties.specs.RelyingInvariants.{NotNewer, ListBy, PromiseFor, Acceptable, SameAcceptance, SettledBy, SettledIfNotDue, RelyingInvariantsHold}
use Rattle.parties.proofs.Compared.{same_true}
use Rattle.parties.proofs.Faults.{unless_cases, first_fault_none, not_some, same_some}
use Rattle.parties.proofs.Runs.{kept, update_both, update_here}

-- what the checks of a list tell

pub record Taken (K : Coding) (s : Settings) (v : RelyingView) (b : SignedList) : Type 0 where
  pub known : K.knows_authority b.authority ≡ true
  pub signed : b.seal ≡ K.seal_list b
  pub not_older : is_older b (v.lists b.authority) ≡ false
  pub fresh : is_fresh s v.now b ≡ true

-- and those of a certificate, but for the list's signature

pub record Checked (K : Coding) (s : Settings) (c : Certificate) (p q : SignedSct) (b : SignedList) (t : ℕ) : Type 0 where
  pub known : K.knows_authority c.issuer ≡ true
  pub signed : c.seal ≡ K.seal_certificate c
  pub first : PromiseFor K c t p
  pub second : PromiseFor K c t q
  pub two_logs : ¬ (p.log ≡ q.log)
  pub not_expired : t ≤ c.expiry
  pub fresh : (b.at ≤ t) × (t ≤ b.at + s.freshness)
  pub not_revoked : ¬ (c.serial ∈ b.serials)
  pub in_range : (c.serial < 2 ^ 63) × (c.expiry < 2 ^ 63) × (t < 2 ^ 63)

no_serial : (i : ℕ) (js : List ℕ) → has_serial i js ≡ false → ¬ (i ∈ js)
unfolding has_serial
no_serial i [] e m = elim m [ ]
no_serial i (j ∷ js) e m = elim (Memᴰ.cases_cons m) [ inl q ↦ eqb-false _ _ (or_parts _ _ e).0 q | inr t ↦ no_serial i js (or_parts _ _ e).1 t ]

checked : (K : Coding) (s : Settings) (c : Certificate) (p q : SignedSct) (b : SignedList) (t : ℕ) → first_fault (faults_of_presented K s t c p q (Some b)) ≡ None → Checked K s c p q b t
checked K s c p q b t none =
    let (unknown, none2) = first_fault_none _ _ none in
    let (unsigned, none3) = first_fault_none _ _ none2 in
    let (unfit, none4) = first_fault_none _ _ none3 in
    let (expired, none5) = first_fault_none _ _ none4 in
    let (stale, none6) = first_fault_none _ _ none5 in
    let (revoked, none7) = first_fault_none _ _ none6 in
    let (large, none8) = first_fault_none _ _ none7 in
    let (known, logs) = and_parts _ _ (not-false _ unknown) in
    let (log, other_log) = and_parts _ _ logs in
    let (signed, scts) = and_parts _ _ (not-false _ unsigned) in
    let (sct-signed, other-signed) = and_parts _ _ scts in
    let (fit, fits) = and_parts _ _ (not-false _ unfit) in
    let (other-fit, two) = and_parts _ _ fits in
    let (digest, past) = and_parts _ _ fit in
    let (other-digest, other-past) = and_parts _ _ other-fit in
    let (not_future, not-old) = and_parts _ _ (not-false _ stale) in
    let (small-serial, smalls) = or_parts _ _ large in
    let (small-expiry, small-tick) = or_parts _ _ smalls in
    record {
      known = known;
      signed = same_true _ _ signed;
      first = record { known = log; signed = same_true _ _ sct-signed; digest = same_true _ _ digest; not_future = leb-true _ _ past };
      second = record { known = other_log; signed = same_true _ _ other-signed; digest = same_true _ _ other-digest; not_future = leb-true _ _ other-past };
      two_logs = eqb-false _ _ (not-true _ two);
      not_expired = ltb-false _ _ expired;
      fresh = (leb-true _ _ not_future, leb-true _ _ not-old);
      not_revoked = no_serial _ _ revoked;
      in_range = (leb-false _ _ small-serial, leb-false _ _ small-expiry, leb-false _ _ small-tick);
    }

-- what a relying party does with a message: it takes a list, it accepts, or nothing changes
pub data Did (K : Coding) (s : Settings) (v : RelyingView) (m : Message) : Step RelyingView → Type 0 where
  nothing : {step : Step RelyingView} → step.view ≡ v → ¬ (kind step.answer ≡ 30) → Did K s v m step
  takes : (b : SignedList) → m ≡ list b → Taken K s v b → Did K s v m (answers (cond (is_news b (v.lists b.authority)) (with_list b v) v) accepted)
  accepts : (c : Certificate) (p q : SignedSct) (b : SignedList) → m ≡ present c p q → v.lists c.issuer ≡ Some b → Checked K s c p q b v.now →
      Did K s v m (answers (keeping c p q b v) accepted)

did_list : (K : Coding) (s : Settings) (b : SignedList) (v : RelyingView) → Did K s v (list b) (to_relying K s (list b) v)
did_list K s b v = unless_cases _ v _ (Did K s v (list b)) (λ n e. nothing refl (λ z. omega (arith, z)))
    (λ none. let (unknown, none2) = first_fault_none _ _ none in
    let (unsigned, none3) = first_fault_none _ _ none2 in
    let (stale, none4) = first_fault_none _ _ none3 in
    let (older, none5) = first_fault_none _ _ none4 in
    takes b refl (record { known = not-false _ unknown; signed = same_true _ _ (not-false _ unsigned); not_older = older; fresh = not-false _ stale }))

did_present : (K : Coding) (s : Settings) (c : Certificate) (p q : SignedSct) (v : RelyingView) → Did K s v (present c p q) (to_relying K s (present c p q) v)
did_present K s c p q v = by (v.lists c.issuer) refl
  where
    by : (o : Option SignedList) → v.lists c.issuer ≡ o → Did K s v (present c p q) (unless (faults_of_presented K s v.now c p q o) v (accepts_by c p q v o))
    by None e = unless_cases _ v _ (Did K s v (present c p q)) (λ n f. nothing refl (λ z. omega (arith, z))) (λ f. nothing refl (λ z. omega (arith, z)))
    by (Some b) e = unless_cases _ v _ (Did K s v (present c p q)) (λ n f. nothing refl (λ z. omega (arith, z))) (λ f. accepts c p q b refl e (checked K s c p q b v.now f))

did : (K : Coding) (s : Settings) (m : Message) (v : RelyingView) → Did K s v m (to_relying K s m v)
did K s (certificate c) v = nothing refl (λ z. omega (arith, z))
did K s (sct p) v = nothing refl (λ z. omega (arith, z))
did K s (head h) v = nothing refl (λ z. omega (arith, z))
did K s (list b) v = did_list K s b v
did K s (order name key) v = nothing refl (λ z. omega (arith, z))
did K s (challenge serial nonce) v = nothing refl (λ z. omega (arith, z))
did K s (published serial) v = nothing refl (λ z. omega (arith, z))
did K s (submit c) v = nothing refl (λ z. omega (arith, z))
did K s get_head v = nothing refl (λ z. omega (arith, z))
did K s (get_inclusion place count) v = nothing refl (λ z. omega (arith, z))
did K s (get_consistency from to) v = nothing refl (λ z. omega (arith, z))
did K s (get_entries from to) v = nothing refl (λ z. omega (arith, z))
did K s (revoke serial seal) v = nothing refl (λ z. omega (arith, z))
did K s get_list v = nothing refl (λ z. omega (arith, z))
did K s (bring c p) v = nothing refl (λ z. omega (arith, z))
did K s (present c p q) v = did_present K s c p q v
did K s (inclusion path) v = nothing refl (λ z. omega (arith, z))
did K s (consistency path) v = nothing refl (λ z. omega (arith, z))
did K s (entries cs) v = nothing refl (λ z. omega (arith, z))
did K s (answer a) v = nothing refl (λ z. omega (arith, z))
did K s accepted v = nothing refl (λ z. omega (arith, z))
did K s (refused cause) v = nothing refl (λ z. omega (arith, z))

-- any event

abbrev at_tick : ℕ → RelyingView → RelyingView
at_tick t v = record { now = t; lists = v.lists; kept = v.kept }

relying_step : (K : Coding) (s : Settings) (P : RelyingView → Type 0) (u : RelyingView) → P u → ((t : ℕ) → u.now ≤ t → P (at_tick t u)) →
    ((b : SignedList) → Taken K s u b → is_news b (u.lists b.authority) ≡ true → P (with_list b u)) →
    ((c : Certificate) (p q : SignedSct) (b : SignedList) → u.lists c.issuer ≡ Some b → Checked K s c p q b u.now → P (keeping c p q b u)) →
    ((i : ℕ) (which : Which) (a : MonitorAnswer) → P (on_answer K s i which a u)) → (e : RelyingEvent) → P (relying_after K s e u)
relying_step K s P u p ticks taking accepting hears (RelyingEvent.Ticks t) = cond_both (ltb t u.now) u (at_tick t u) P (λ e. p) (λ e. ticks t (ltb-false _ _ e))
relying_step K s P u p ticks taking accepting hears (RelyingEvent.Gets m) = by (to_relying K s m u) (did K s m u)
  where
    by : (step : Step RelyingView) → Did K s u m step → P step.view
    by step (nothing q z) = subst P (sym q) p
    by step (takes b q t) = cond_both (is_news b (u.lists b.authority)) (with_list b u) u P (λ e. taking b t e) (λ e. p)
    by step (accepts c x y b q e k) = accepting c x y b e k
relying_step K s P u p ticks taking accepting hears (RelyingEvent.Hears i which a) = hears i which a

time : (K : Coding) (s : Settings) (v w : RelyingView) → RelyingRun K s v w → v.now ≤ w.now
time K s v w r = kept (λ u. v.now ≤ u.now) (λ e u l. relying_step K s (λ x. v.now ≤ x.now) u l (λ t m. le_trans l m) (λ b t n. l) (λ c p q b h k. l) (λ i which a. l) e) r (le_refl _)

-- lists

not_newer_refl : (o : Option SignedList) → NotNewer o o
not_newer_refl None = tt
not_newer_refl (Some b) = (le_refl _, λ e. le_refl _)

not_newer_trans : (x y z : Option SignedList) → NotNewer x y → NotNewer y z → NotNewer x z
not_newer_trans None y z p q = tt
not_newer_trans (Some x) None z p q = absurd p
not_newer_trans (Some x) (Some y) None p q = absurd q
not_newer_trans (Some x) (Some y) (Some z) (l, f) (m, g) =
    (le_trans l m, λ e. let same : x.at ≡ y.at = omega (arith, l, m, e) in le_trans (f same) (g (omega (arith, l, m, e))))

news_is_newer : (b : SignedList) (o : Option SignedList) → is_older b o ≡ false → is_news b o ≡ true → NotNewer o (Some b)
news_is_newer b None older news = tt
news_is_newer b (Some old) older news = (ltb-false _ _ older, λ e. elim (or_cases (ltb old.at b.at) (ltb (length old.serials) (length b.serials)) news) [ inl l ↦ absurd (omega (arith, ltb-true old.at b.at l, e)) | inr l ↦ omega (arith, ltb-true (length old.serials) (length b.serials) l) ])

no_news_is_newer : (b : SignedList) (o : Option SignedList) → is_older b o ≡ false → is_news b o ≡ false → NotNewer (Some b) o
no_news_is_newer b None older news = absurd (true≢false news)
no_news_is_newer b (Some old) older news = let (late, long) = or_parts _ _ news in (ltb-false _ _ late, λ e. ltb-false _ _ long)

lists_get_newer : (K : Coding) (s : Settings) (v w : RelyingView) → RelyingRun K s v w → (a : ℕ) → NotNewer (v.lists a) (w.lists a)
lists_get_newer K s v w r a = kept (λ u. NotNewer (v.lists a) (u.lists a)) (λ e u n. relying_step K s (λ x. NotNewer (v.lists a) (x.lists a)) u n (λ t l. n)
    (λ b t news. update_both b.authority (Some b) u.lists a (λ o. NotNewer (v.lists a) o)
    (λ q. not_newer_trans (v.lists a) (u.lists a) (Some b) n (subst (λ (i : ℕ). NotNewer (u.lists i) (Some b)) (sym q) (news_is_newer b (u.lists b.authority) t.not_older news)))
    (λ q. n))
    (λ c p q b h k. n) (λ i which x. n) e) r (not_newer_refl _)

-- what it has

pub record Right (K : Coding) (s : Settings) (u : RelyingView) : Type 0 where
  pub lists : (a : ℕ) (b : SignedList) → u.lists a ≡ Some b → ListBy K a b
  pub kept : (k : Kept) → k ∈ u.kept → Acceptable K s k.certificate k.first k.second k.list k.at × (k.at ≤ u.now)

lists_with : (K : Coding) (s : Settings) (u : RelyingView) (b : SignedList) → Taken K s u b → ((a : ℕ) (x : SignedList) → u.lists a ≡ Some x → ListBy K a x) →
    (a : ℕ) (x : SignedList) → (with_list b u).lists a ≡ Some x → ListBy K a x
lists_with K s u b t before a x = update_both b.authority (Some b) u.lists a (λ o. o ≡ Some x → ListBy K a x)
    (λ q e. subst (ListBy K a) (same_some b x e) (record { known = ap K.knows_authority q ∙ t.known; by_it = sym q; signed = t.signed })) (λ q e. before a x e)

acceptable : (K : Coding) (s : Settings) (c : Certificate) (p q : SignedSct) (b : SignedList) (t : ℕ) → Checked K s c p q b t → ListBy K c.issuer b → Acceptable K s c p q b t
acceptable K s c p q b t k l = record {
  known = k.known;
  signed = k.signed;
  first = k.first;
  second = k.second;
  two_logs = k.two_logs;
  not_expired = k.not_expired;
  list = l;
  fresh = k.fresh;
  not_revoked = k.not_revoked;
  in_range = k.in_range;
}

settles_keeps : (K : Coding) (s : Settings) (t : ℕ) (which : Which) (a : MonitorAnswer) (k : Kept) → SameAcceptance k (settles K s t which a k)
settles_keeps K s t First a k = record { certificate = refl; first = refl; second = refl; list = refl; at = refl }
settles_keeps K s t Second a k = record { certificate = refl; first = refl; second = refl; list = refl; at = refl }

same_itself : (k : Kept) → SameAcceptance k k
same_itself k = record { certificate = refl; first = refl; second = refl; list = refl; at = refl }

settled_was_kept : (K : Coding) (s : Settings) (t i : ℕ) (which : Which) (a : MonitorAnswer) (ks : List Kept) (j : Kept) → j ∈ settles_at K s t i which a ks →
    (k : Kept) × (k ∈ ks) × SameAcceptance k j
unfolding settles_at
settled_was_kept K s t i which a [] j m = elim m [ ]
settled_was_kept K s t ℕ.zero which a (k ∷ ks) j m = elim (Memᴰ.cases_cons m) [
  | inl q ↦ (k, Memᴰ.head refl, subst (SameAcceptance k) (sym q) (settles_keeps K s t which a k))
  | inr n ↦ (j, Memᴰ.tail n, same_itself j)
]
settled_was_kept K s t (suc i) which a (k ∷ ks) j m = elim (Memᴰ.cases_cons m) [
  | inl q ↦ (k, Memᴰ.head refl, subst (SameAcceptance k) (sym q) (same_itself k))
  | inr n ↦ let (x, l, e) = settled_was_kept K s t i which a ks j n in (x, Memᴰ.tail l, e)
]

kept_is_settled : (K : Coding) (s : Settings) (t i : ℕ) (which : Which) (a : MonitorAnswer) (ks : List Kept) (k : Kept) → k ∈ ks →
    (j : Kept) × (j ∈ settles_at K s t i which a ks) × SameAcceptance k j
unfolding settles_at
kept_is_settled K s t i which a [] k m = elim m [ ]
kept_is_settled K s t ℕ.zero which a (x ∷ ks) k m = elim (Memᴰ.cases_cons m) [
  | inl q ↦ (settles K s t which a k, Memᴰ.head (ap (settles K s t which a) q), settles_keeps K s t which a k)
  | inr n ↦ (k, Memᴰ.tail n, same_itself k)
]
kept_is_settled K s t (suc i) which a (x ∷ ks) k m = elim (Memᴰ.cases_cons m) [
  | inl q ↦ (k, Memᴰ.head q, same_itself k)
  | inr n ↦ let (j, l, e) = kept_is_settled K s t i which a ks k n in (j, Memᴰ.tail l, e)
]

same_is_acceptable : (K : Coding) (s : Settings) (k j : Kept) → SameAcceptance k j → (t : ℕ) →
    Acceptable K s k.certificate k.first k.second k.list k.at × (k.at ≤ t) → Acceptable K s j.certificate j.first j.second j.list j.at × (j.at ≤ t)
same_is_acceptable K s k j e t (x, l) = (
  rw (← e.certificate, ← e.first, ← e.second, ← e.list, ← e.at) x,
  subst (λ (n : ℕ). n ≤ t) e.at l,
)

same_trans : (k j i : Kept) → SameAcceptance k j → SameAcceptance j i → SameAcceptance k i
same_trans k j i e f = record {
  certificate = e.certificate ∙ f.certificate;
  first = e.first ∙ f.first;
  second = e.second ∙ f.second;
  list = e.list ∙ f.list;
  at = e.at ∙ f.at;
}

kept_with : (K : Coding) (s : Settings) (u : RelyingView) (c : Certificate) (p q : SignedSct) (b : SignedList) → u.lists c.issuer ≡ Some b → Checked K s c p q b u.now → Right K s u →
    Right K s (keeping c p q b u)
kept_with K s u c p q b h k r = record {
  lists = r.lists;
  kept = λ j m. elim (Memᴰ.cases_cons m) [
    | inl e ↦ subst (λ (x : Kept). Acceptable K s x.certificate x.first x.second x.list x.at × (x.at ≤ u.now)) (sym e)
        (acceptable K s c p q b u.now k (r.lists c.issuer b h), le_refl _)
    | inr n ↦ r.kept j n
  ];
}

right_after : (K : Coding) (s : Settings) (e : RelyingEvent) (u : RelyingView) → Right K s u → Right K s (relying_after K s e u)
right_after K s e u r = relying_step K s (Right K s) u r
    (λ t l. record { lists = r.lists; kept = λ k m. ((r.kept k m).0, le_trans (r.kept k m).1 l) })
    (λ b t news. record { lists = lists_with K s u b t r.lists; kept = r.kept })
    (λ c p q b h k. kept_with K s u c p q b h k r)
    (λ i which a. record {
      lists = r.lists;
      kept = λ j m. let (k, n, same) = settled_was_kept K s u.now i which a u.kept j m in same_is_acceptable K s k j same u.now (r.kept k n);
    }) e

right : (K : Coding) (s : Settings) (v : RelyingView) → RelyingRun K s new_relying v → Right K s v
right K s v run = kept (Right K s) (right_after K s) run (record { lists = λ a b e. not_some b (sym e); kept = λ k m. elim m [ ] })

kept_stays : (K : Coding) (s : Settings) (v w : RelyingView) → RelyingRun K s v w → (k : Kept) → k ∈ v.kept → (j : Kept) × (j ∈ w.kept) × SameAcceptance k j
kept_stays K s v w r k m = kept (λ u. (j : Kept) × (j ∈ u.kept) × SameAcceptance k j)
    (λ e u (j, n, same). relying_step K s (λ x. (j : Kept) × (j ∈ x.kept) × SameAcceptance k j) u (j, n, same) (λ t l. (j, n, same)) (λ b t news. (j, n, same))
    (λ c p q b h y. (j, Memᴰ.tail n, same))
    (λ i which a. let (x, l, f) = kept_is_settled K s u.now i which a u.kept j n in (x, l, same_trans k j x same f)) e) r (k, m, same_itself k)

-- what it answers

presented_same : (c d : Certificate) (p q x y : SignedSct) → present c p q ≡ present d x y → (d ≡ c) × (x ≡ p) × (y ≡ q)
presented_same c d p q x y e = (cc, cc, cc)

listed_same : (b x : SignedList) → list b ≡ list x → x ≡ b
listed_same b x e = cc

accepted_is_kept : (K : Coding) (s : Settings) (v : RelyingView) (c : Certificate) (p q : SignedSct) → (to_relying K s (present c p q) v).answer ≡ accepted →
    (k : Kept) × ((to_relying K s (present c p q) v).view.kept ≡ k ∷ v.kept) × (k.certificate ≡ c) × (k.first ≡ p) × (k.second ≡ q) × (v.lists c.issuer ≡ Some k.list) × (k.at ≡ v.now)
accepted_is_kept K s v c p q = by (to_relying K s (present c p q) v) (did_present K s c p q v)
  where
    by : (step : Step RelyingView) → Did K s v (present c p q) step → step.answer ≡ accepted →
        (k : Kept) × (step.view.kept ≡ k ∷ v.kept) × (k.certificate ≡ c) × (k.first ≡ p) × (k.second ≡ q) × (v.lists c.issuer ≡ Some k.list) × (k.at ≡ v.now)
    by step (nothing e z) a = absurd (z (ap kind a))
    by step (takes b e t) a = absurd (omega (arith, ap kind e))
    by step (accepts d x y b e h k) a = let (same, first, second) = presented_same c d p q x y e in (_, refl, same, first, second, ap (λ (i : Certificate). v.lists i.issuer) (sym same) ∙ h, refl)

accepted_is_unlisted : (K : Coding) (s : Settings) (v : RelyingView) (c : Certificate) (p q : SignedSct) → (to_relying K s (present c p q) v).answer ≡ accepted →
    (l : SignedList) × (v.lists c.issuer ≡ Some l) × (¬ (c.serial ∈ l.serials))
accepted_is_unlisted K s v c p q = by (to_relying K s (present c p q) v) (did_present K s c p q v)
  where
    by : (step : Step RelyingView) → Did K s v (present c p q) step → step.answer ≡ accepted → (l : SignedList) × (v.lists c.issuer ≡ Some l) × (¬ (c.serial ∈ l.serials))
    by step (nothing e z) a = absurd (z (ap kind a))
    by step (takes b e t) a = absurd (omega (arith, ap kind e))
    by step (accepts d x y b e h k) a = let (same, first, second) = presented_same c d p q x y e in
        subst (λ (i : Certificate). (l : SignedList) × (v.lists i.issuer ≡ Some l) × (¬ (i.serial ∈ l.serials))) same (b, h, k.not_revoked)

-- once it was handed a list, the one that it has is not older
handed : (K : Coding) (s : Settings) (v : RelyingView) (b : SignedList) → (to_relying K s (list b) v).answer ≡ accepted → NotNewer (Some b) ((to_relying K s (list b) v).view.lists b.authority)
handed K s v b = by (to_relying K s (list b) v) (did_list K s b v)
  where
    has_it : (x : SignedList) → Taken K s v x → NotNewer (Some x) ((cond (is_news x (v.lists x.authority)) (with_list x v) v).lists x.authority)
    has_it x t = cond_both (is_news x (v.lists x.authority)) (with_list x v) v (λ (u : RelyingView). NotNewer (Some x) (u.lists x.authority))
        (λ news. subst (NotNewer (Some x)) (sym (update_here x.authority (Some x) v.lists)) (not_newer_refl (Some x)))
        (λ news. no_news_is_newer x (v.lists x.authority) t.not_older news)

    by : (step : Step RelyingView) → Did K s v (list b) step → step.answer ≡ accepted → NotNewer (Some b) (step.view.lists b.authority)
    by step (nothing e z) a = absurd (z (ap kind a))
    by step (takes x e t) a = subst (λ (y : SignedList). NotNewer (Some y) ((cond (is_news x (v.lists x.authority)) (with_list x v) v).lists y.authority)) (listed_same b x e) (has_it x t)
    by step (accepts d p q x e h k) a = absurd (omega (arith, ap kind e))

taken_was_fresh : (K : Coding) (s : Settings) (v : RelyingView) (b : SignedList) → (to_relying K s (list b) v).answer ≡ accepted →
    ListBy K b.authority b × (b.at ≤ v.now) × (v.now ≤ b.at + s.freshness)
taken_was_fresh K s v b = by (to_relying K s (list b) v) (did_list K s b v)
  where
    by : (step : Step RelyingView) → Did K s v (list b) step → step.answer ≡ accepted → ListBy K b.authority b × (b.at ≤ v.now) × (v.now ≤ b.at + s.freshness)
    by step (nothing e z) a = absurd (z (ap kind a))
    by step (takes x e t) a = let (past, fresh) = and_parts _ _ t.fresh in
        subst (λ (y : SignedList). ListBy K y.authority y × (y.at ≤ v.now) × (v.now ≤ y.at + s.freshness)) (listed_same b x e)
        (record { known = t.known; by_it = refl; signed = t.signed }, leb-true _ _ past, leb-true _ _ fresh)
    by step (accepts d p q x e h k) a = absurd (omega (arith, ap kind e))

not_by_an_older_list : (K : Coding) (s : Settings) (v w : RelyingView) (b : SignedList) (c : Certificate) (p q : SignedSct) → (to_relying K s (list b) v).answer ≡ accepted →
    RelyingRun K s (to_relying K s (list b) v).view w → (to_relying K s (present c p q) w).answer ≡ accepted → c.issuer ≡ b.authority →
    (l : SignedList) × (w.lists c.issuer ≡ Some l) × NotNewer (Some b) (Some l) × (¬ (c.serial ∈ l.serials))
not_by_an_older_list K s v w b c p q taken r a same =
    let (l, e, clear) = accepted_is_unlisted K s w c p q a in
    let newer : NotNewer (Some b) (w.lists b.authority) =
    not_newer_trans (Some b) ((to_relying K s (list b) v).view.lists b.authority) (w.lists b.authority) (handed K s v b taken) (lists_get_newer K s (to_relying K s (list b) v).view w r b.authority) in
    (l, e, subst (NotNewer (Some b)) (ap w.lists (sym same) ∙ e) newer, clear)

-- what it brings

brings_first : (t due : ℕ) (k : Kept) → due ≤ t → k.first_due ≡ Some due → bring k.certificate k.first ∈ brings t k
brings_first t due k l e = Memᴰ.append_left _ (subst (λ (ms : List Message). bring k.certificate k.first ∈ ms)
    (sym (cond-true (is_now t k.first_due) (bring k.certificate k.first ∷ []) [] (ap (is_now t) e ∙ le-leb due t l))) (Memᴰ.head refl))

brings_second : (t due : ℕ) (k : Kept) → due ≤ t → k.second_due ≡ Some due → bring k.certificate k.second ∈ brings t k
brings_second t due k l e = Memᴰ.append_right _ (subst (λ (ms : List Message). bring k.certificate k.second ∈ ms)
    (sym (cond-true (is_now t k.second_due) (bring k.certificate k.second ∷ []) [] (ap (is_now t) e ∙ le-leb due t l))) (Memᴰ.head refl))

brings_of_each : (t : ℕ) (ks : List Kept) (k : Kept) (m : Message) → k ∈ ks → m ∈ brings t k → m ∈ brings_all t ks
unfolding brings_all
brings_of_each t [] k m i h = elim i [ ]
brings_of_each t (j ∷ ks) k m i h = elim (Memᴰ.cases_cons i) [
  | inl q ↦ Memᴰ.append_left _ (subst (λ (x : Kept). m ∈ brings t x) q h)
  | inr n ↦ Memᴰ.append_right (brings t j) (brings_of_each t ks k m n h)
]

leads : (r : Bytes) (o : Option Bytes) → leads_to r o ≡ true → o ≡ Some r
leads r None e = absurd (false≢true e)
leads r (Some d) e = ap Some (same_true d r e)

is_convicted : (x : Verdict) → convicted x ≡ true → x ≡ Convicts
is_convicted Convicts e = refl
is_convicted (Refused n) e = absurd (false≢true e)
is_convicted (NotSo n) e = absurd (false≢true e)

settled_by : (K : Coding) (s : Settings) (t : ℕ) (p : SignedSct) (a : MonitorAnswer) → due_after K s t p a ≡ None → SettledBy K s p a
settled_by K s t p (included h place way) = cond_both
    (eqb h.log p.log && (right_head K h && leads_to h.root (root_from_path (node_of K) h.count place p.digest way))) None (Some (suc t)) (λ o. o ≡ None → SettledBy K s p (included h place way))
    (λ e q. let (log, rest) = and_parts _ _ e in let (signed, way) = and_parts _ _ rest in (eqb-true _ _ log, same_true _ _ signed, leads _ _ way)) (λ e q. not_some (suc t) q)
settled_by K s t p not_due = λ q. not_some (p.at + s.mmd) q
settled_by K s t p (convicts h ds) = cond_both (convicted (judge K s p h ds)) None (Some (suc t)) (λ o. o ≡ None → judge K s p h ds ≡ Convicts) (λ e q. is_convicted _ e) (λ e q. not_some (suc t) q)
settled_by K s t p no_head_so_late = λ q. not_some (suc t) q

due_again : (K : Coding) (s : Settings) (t : ℕ) (p : SignedSct) (a : MonitorAnswer) (due : ℕ) → due_after K s t p a ≡ Some due → (due ≡ suc t) ⊎ (due ≡ p.at + s.mmd)
due_again K s t p (included h place way) due = cond_both
    (eqb h.log p.log && (right_head K h && leads_to h.root (root_from_path (node_of K) h.count place p.digest way))) None (Some (suc t)) (λ o. o ≡ Some due → (due ≡ suc t) ⊎ (due ≡ p.at + s.mmd))
    (λ e q. not_some due (sym q)) (λ e q. inl (sym (same_some (suc t) due q)))
due_again K s t p not_due due = λ q. inr (sym (same_some (p.at + s.mmd) due q))
due_again K s t p (convicts h ds) due = cond_both (convicted (judge K s p h ds)) None (Some (suc t)) (λ o. o ≡ Some due → (due ≡ suc t) ⊎ (due ≡ p.at + s.mmd)) (λ e q. not_some due (sym q))
    (λ e q. inl (sym (same_some (suc t) due q)))
due_again K s t p no_head_so_late due = λ q. inl (sym (same_some (suc t) due q))

-- each promise of an acceptance is due, or was settled
pub record Ended (K : Coding) (s : Settings) (k : Kept) : Type 0 where
  pub first : SettledIfNotDue K s k.first k.first_due
  pub second : SettledIfNotDue K s k.second k.second_due

settles_ended : (K : Coding) (s : Settings) (t : ℕ) (which : Which) (a : MonitorAnswer) (k : Kept) → Ended K s k → Ended K s (settles K s t which a k)
settles_ended K s t First a k x = record { first = λ e. (a, settled_by K s t k.first a e); second = x.second }
settles_ended K s t Second a k x = record { first = x.first; second = λ e. (a, settled_by K s t k.second a e) }

all_ended : (K : Coding) (s : Settings) (t i : ℕ) (which : Which) (a : MonitorAnswer) (ks : List Kept) → ((k : Kept) → k ∈ ks → Ended K s k) → (j : Kept) → j ∈ settles_at K s t i which a ks → Ended K s j
unfolding settles_at
all_ended K s t i which a [] h j m = elim m [ ]
all_ended K s t ℕ.zero which a (k ∷ ks) h j m = elim (Memᴰ.cases_cons m) [
  | inl q ↦ subst (Ended K s) (sym q) (settles_ended K s t which a k (h k (Memᴰ.head refl)))
  | inr n ↦ h j (Memᴰ.tail n)
]
all_ended K s t (suc i) which a (k ∷ ks) h j m = elim (Memᴰ.cases_cons m) [
  | inl q ↦ h j (Memᴰ.head q)
  | inr n ↦ all_ended K s t i which a ks (λ x l. h x (Memᴰ.tail l)) j n
]

ended_by_settling : (K : Coding) (s : Settings) (v : RelyingView) → RelyingRun K s new_relying v → (k : Kept) → k ∈ v.kept → Ended K s k
ended_by_settling K s v r = kept (λ u. (k : Kept) → k ∈ u.kept → Ended K s k)
    (λ e u h. relying_step K s (λ x. (k : Kept) → k ∈ x.kept → Ended K s k) u h (λ t l. h) (λ b t news. h)
    (λ c p q b has k j m. elim (Memᴰ.cases_cons m) [
      | inl same ↦ subst (Ended K s) (sym same) (record { first = λ z. not_some (suc u.now) z; second = λ z. not_some (suc u.now) z })
      | inr n ↦ h j n
    ])
    (λ i which a. all_ended K s u.now i which a u.kept h) e) r (λ k m. elim m [ ])

pub relying_invariants_hold : RelyingInvariantsHold
relying_invariants_hold K s = record {
  time = time K s;
  lists_get_newer = lists_get_newer K s;
  lists_are_signed = λ v r. (right K s v r).lists;
  taken_was_fresh = taken_was_fresh K s;
  accepted_was_acceptable = λ v r. (right K s v r).kept;
  accepted_is_kept = accepted_is_kept K s;
  kept_stays = kept_stays K s;
  brought_when_due = λ v k m t due l. (
    (λ e. brings_of_each t v.kept k _ m (brings_first t due k l e)),
    λ e. brings_of_each t v.kept k _ m (brings_second t due k l e),
  );
  due_again = due_again K s;
  ended_by_settling = λ v r k m. let x = ended_by_settling K s v r k m in (x.first, x.second);
  not_by_an_older_list = not_by_an_older_list K s;
}
