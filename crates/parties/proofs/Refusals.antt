-- What a party refuses changes nothing, and kinds that are not for it are refused. Assumes nothing.
use Rattle.std.proofs.Common.{◌≡◌, ℕ, true, ltb, List, [], Some, None, Option, sym, refl, ap, ◌∙◌, subst, arith}
use mathlib.Core.List.Memᴰ
use Rattle.std.proofs.lemmas.Bool.{cond_both, cond-true, cond-false, lt-ltb, le-ltb}
use Rattle.model.specs.Lists.{◌∈◌}
use Rattle.model.specs.Objects.{Certificate}
use Rattle.wire_theory.specs.Bytes.{Bytes}
use Rattle.wire_theory.specs.Messages.{Message, SignedSct, SignedList, Settings, MonitorAnswer}
use Rattle.wire_theory.specs.Messages.Message.{certificate, sct, head, list, order, challenge, published, submit, get_head, get_inclusion, get_consistency, get_entries, revoke, get_list, bring, present, inclusion, consistency, entries, answer, accepted, refused}
use Rattle.parties.specs.Coding.{Coding}
use Rattle.parties.specs.Steps.{Step, Tick, answers, Fault, ◌⇒◌, unless, first_fault, is_some, too_large}
use Rattle.parties.specs.Authority.{Account, AuthorityView, account_of, on_get_list, on_published_to, revoking, revokes, on_revoke_of, withdraw_of}
use Rattle.parties.specs.Log.{LogView}
use Rattle.parties.specs.Monitor.{MonitorView, Fetched, lastly, answering, brought_by, faults_of_brought, faults_of, looked_by, says}
use Rattle.parties.specs.RelyingParty.{RelyingView, accepts_by}
use Rattle.parties.specs.Handling.{kind, to_authority, to_log, to_monitor, to_relying, IsCause, UnchangedIfRefused, RefusalsChangeNothing, EarlierTicksChangeNothing, KindsOfOthers, authority_kinds, log_kinds, monitor_kinds, relying_kinds}
use Rattle.parties.proofs.Faults.{unless_cases, first_fault_none, no_fault, not_some, numbered, numbered_first}

-- an answer of another kind is no refusal
pub answered : {V : Type 0} (before after : V) (m : Message) → ¬ (kind m ≡ 31) → UnchangedIfRefused before after m
answered before after m other n e = absurd (other (ap kind e))

same_cause : (n k : ℕ) → refused k ≡ refused n → k ≡ n
same_cause n k e = cc

pub refusing : {V : Type 0} (v : V) (k : ℕ) → IsCause k → UnchangedIfRefused v v (refused k)
refusing v k c n e = (refl, subst IsCause (same_cause n k e) c)

module _ {V : Type 0} where
  -- what is kept of a step by its view and its answer
  pub record Kept (v : V) (step : Step V) : Type 0 where
    pub is : UnchangedIfRefused v step.view step.answer

  pub refused_or : (fs : List Fault) → numbered fs ≡ true → (v : V) (step : Step V) → (first_fault fs ≡ None → Kept v step) → Kept v (unless fs v step)
  refused_or fs nums v step next = unless_cases fs v step (Kept v) (λ n e. record { is = refusing v n (numbered_first fs nums n e) }) next

-- the authority

list_kept : (K : Coding) (s : Settings) (v : AuthorityView) → Kept v (on_get_list K s v)
list_kept K s v = refused_or _ refl v _ (λ e. record { is = answered _ _ _ (λ z. omega (arith, z)) })

revokes_kept : (K : Coding) (s : Settings) (serial : ℕ) (a : Account) (v : AuthorityView) → Kept v (revokes K s serial a v)
revokes_kept K s serial a v = cond_both (is_some a.revoked) _ _ (Kept v) (λ e. list_kept K s v)
    (λ e. refused_or _ refl v _ (λ none. let rest = first_fault_none _ _ none in let small = first_fault_none _ _ rest.1 in
    unless_cases _ (revoking serial a v) _ (Kept v) (λ n large. not_some n (sym large ∙ no_fault (too_large v.now ⇒ 14) small.0)) (λ f. record { is = answered _ _ _ (λ z. omega (arith, z)) })))

published_kept : (K : Coding) (s : Settings) (serial : ℕ) (found : Option Bytes) (v : AuthorityView) (a : Option Account) → Kept v (on_published_to K s serial found v a)
published_kept K s serial found v None = record { is = refusing v 2 (omega arith, omega arith) }
published_kept K s serial found v (Some a) = refused_or _ refl v _ (λ e. record { is = answered _ _ _ (λ z. omega (arith, z)) })

revoke_kept : (K : Coding) (s : Settings) (serial : ℕ) (seal : Bytes) (v : AuthorityView) (a : Option Account) → Kept v (on_revoke_of K s serial seal v a)
revoke_kept K s serial seal v None = record { is = refusing v 2 (omega arith, omega arith) }
revoke_kept K s serial seal v (Some a) = refused_or _ refl v _ (λ e. revokes_kept K s serial a v)

withdraw_kept : (K : Coding) (s : Settings) (serial : ℕ) (v : AuthorityView) (a : Option Account) → Kept v (withdraw_of K s serial v a)
withdraw_kept K s serial v None = record { is = refusing v 2 (omega arith, omega arith) }
withdraw_kept K s serial v (Some a) = revokes_kept K s serial a v

unknown_kept : {V : Type 0} (v : V) → Kept v (answers v (refused 1))
unknown_kept v = record { is = refusing v 1 (omega arith, omega arith) }

authority_kept : (K : Coding) (s : Settings) (found : Option Bytes) (m : Message) (v : AuthorityView) → Kept v (to_authority K s found m v)
authority_kept K s found (certificate c) v = unknown_kept v
authority_kept K s found (sct p) v = unknown_kept v
authority_kept K s found (head h) v = unknown_kept v
authority_kept K s found (list b) v = unknown_kept v
authority_kept K s found (order name key) v = refused_or _ refl v _ (λ e. record { is = answered _ _ _ (λ z. omega (arith, z)) })
authority_kept K s found (challenge serial nonce) v = unknown_kept v
authority_kept K s found (published serial) v = published_kept K s serial found v _
authority_kept K s found (submit c) v = unknown_kept v
authority_kept K s found get_head v = unknown_kept v
authority_kept K s found (get_inclusion place count) v = unknown_kept v
authority_kept K s found (get_consistency from to) v = unknown_kept v
authority_kept K s found (get_entries from to) v = unknown_kept v
authority_kept K s found (revoke serial seal) v = revoke_kept K s serial seal v _
authority_kept K s found get_list v = list_kept K s v
authority_kept K s found (bring c p) v = unknown_kept v
authority_kept K s found (present c p q) v = unknown_kept v
authority_kept K s found (inclusion path) v = unknown_kept v
authority_kept K s found (consistency path) v = unknown_kept v
authority_kept K s found (entries cs) v = unknown_kept v
authority_kept K s found (answer a) v = unknown_kept v
authority_kept K s found accepted v = unknown_kept v
authority_kept K s found (refused cause) v = unknown_kept v

-- the log

log_kept : (K : Coding) (m : Message) (v : LogView) → Kept v (to_log K m v)
log_kept K (certificate c) v = unknown_kept v
log_kept K (sct p) v = unknown_kept v
log_kept K (head h) v = unknown_kept v
log_kept K (list b) v = unknown_kept v
log_kept K (order name key) v = unknown_kept v
log_kept K (challenge serial nonce) v = unknown_kept v
log_kept K (published serial) v = unknown_kept v
log_kept K (submit c) v = refused_or _ refl v _ (λ e. record { is = answered _ _ _ (λ z. omega (arith, z)) })
log_kept K get_head v = refused_or _ refl v _ (λ e. record { is = answered _ _ _ (λ z. omega (arith, z)) })
log_kept K (get_inclusion place count) v = refused_or _ refl v _ (λ e. record { is = answered _ _ _ (λ z. omega (arith, z)) })
log_kept K (get_consistency from to) v = refused_or _ refl v _ (λ e. record { is = answered _ _ _ (λ z. omega (arith, z)) })
log_kept K (get_entries from to) v = refused_or _ refl v _ (λ e. record { is = answered _ _ _ (λ z. omega (arith, z)) })
log_kept K (revoke serial seal) v = unknown_kept v
log_kept K get_list v = unknown_kept v
log_kept K (bring c p) v = unknown_kept v
log_kept K (present c p q) v = unknown_kept v
log_kept K (inclusion path) v = unknown_kept v
log_kept K (consistency path) v = unknown_kept v
log_kept K (entries cs) v = unknown_kept v
log_kept K (answer a) v = unknown_kept v
log_kept K accepted v = unknown_kept v
log_kept K (refused cause) v = unknown_kept v

-- the relying party

accepts_kept : (c : Certificate) (p q : SignedSct) (v : RelyingView) (b : Option SignedList) → Kept v (accepts_by c p q v b)
accepts_kept c p q v None = record { is = refusing v 10 (omega arith, omega arith) }
accepts_kept c p q v (Some b) = record { is = answered _ _ _ (λ z. omega (arith, z)) }

relying_kept : (K : Coding) (s : Settings) (m : Message) (v : RelyingView) → Kept v (to_relying K s m v)
relying_kept K s (certificate c) v = unknown_kept v
relying_kept K s (sct p) v = unknown_kept v
relying_kept K s (head h) v = unknown_kept v
relying_kept K s (list b) v = refused_or _ refl v _ (λ e. record { is = answered _ _ _ (λ z. omega (arith, z)) })
relying_kept K s (order name key) v = unknown_kept v
relying_kept K s (challenge serial nonce) v = unknown_kept v
relying_kept K s (published serial) v = unknown_kept v
relying_kept K s (submit c) v = unknown_kept v
relying_kept K s get_head v = unknown_kept v
relying_kept K s (get_inclusion place count) v = unknown_kept v
relying_kept K s (get_consistency from to) v = unknown_kept v
relying_kept K s (get_entries from to) v = unknown_kept v
relying_kept K s (revoke serial seal) v = unknown_kept v
relying_kept K s get_list v = unknown_kept v
relying_kept K s (bring c p) v = unknown_kept v
relying_kept K s (present c p q) v = refused_or _ refl v _ (λ e. accepts_kept c p q v _)
relying_kept K s (inclusion path) v = unknown_kept v
relying_kept K s (consistency path) v = unknown_kept v
relying_kept K s (entries cs) v = unknown_kept v
relying_kept K s (answer a) v = unknown_kept v
relying_kept K s accepted v = unknown_kept v
relying_kept K s (refused cause) v = unknown_kept v

-- the monitor

lastly_answers : (before v : MonitorView) (told : List Certificate) (a : Option MonitorAnswer) → UnchangedIfRefused before (lastly v told a).view (lastly v told a).says
lastly_answers before v told None = answered _ _ _ (λ z. omega (arith, z))
lastly_answers before v told (Some a) = answered _ _ _ (λ z. omega (arith, z))

answering_answers : (K : Coding) (s : Settings) (p : SignedSct) (came : Option Fetched) (v : MonitorView) (a : Option MonitorAnswer) →
    UnchangedIfRefused v (answering K s p came v a).view (answering K s p came v a).says
answering_answers K s p came v None = lastly_answers v _ _ _
answering_answers K s p came v (Some a) = answered _ _ _ (λ z. omega (arith, z))

brought_kept : (K : Coding) (s : Settings) (p : SignedSct) (came : Option Fetched) (v : MonitorView) (fs : List Fault) → numbered fs ≡ true →
    UnchangedIfRefused v (brought_by K s p came v (first_fault fs)).view (brought_by K s p came v (first_fault fs)).says
brought_kept K s p came v fs nums = go (first_fault fs) refl
  where
    go : (o : Option ℕ) → first_fault fs ≡ o → UnchangedIfRefused v (brought_by K s p came v o).view (brought_by K s p came v o).says
    go None e = answering_answers K s p came v _
    go (Some n) e = refusing v n (numbered_first fs nums n e)

fetched_kept : (K : Coding) (f : Fetched) (v : MonitorView) (fs : List Fault) → numbered fs ≡ true → (n : ℕ) →
    (looked_by K f v (first_fault fs)).fault ≡ Some n → ((looked_by K f v (first_fault fs)).view ≡ v) × IsCause n
fetched_kept K f v fs nums n = go (first_fault fs) refl
  where
    go : (o : Option ℕ) → first_fault fs ≡ o → (looked_by K f v o).fault ≡ Some n → ((looked_by K f v o).view ≡ v) × IsCause n
    go None e q = not_some n (sym q)
    go (Some k) e q = (refl, numbered_first fs nums n (e ∙ q))

monitor_kept : (K : Coding) (s : Settings) (came : Option Fetched) (m : Message) (v : MonitorView) →
    UnchangedIfRefused v (to_monitor K s came m v).view (to_monitor K s came m v).says
monitor_kept K s came (certificate c) v = refusing v 1 (omega arith, omega arith)
monitor_kept K s came (sct p) v = refusing v 1 (omega arith, omega arith)
monitor_kept K s came (head h) v = refusing v 1 (omega arith, omega arith)
monitor_kept K s came (list b) v = refusing v 1 (omega arith, omega arith)
monitor_kept K s came (order name key) v = refusing v 1 (omega arith, omega arith)
monitor_kept K s came (challenge serial nonce) v = refusing v 1 (omega arith, omega arith)
monitor_kept K s came (published serial) v = refusing v 1 (omega arith, omega arith)
monitor_kept K s came (submit c) v = refusing v 1 (omega arith, omega arith)
monitor_kept K s came get_head v = refusing v 1 (omega arith, omega arith)
monitor_kept K s came (get_inclusion place count) v = refusing v 1 (omega arith, omega arith)
monitor_kept K s came (get_consistency from to) v = refusing v 1 (omega arith, omega arith)
monitor_kept K s came (get_entries from to) v = refusing v 1 (omega arith, omega arith)
monitor_kept K s came (revoke serial seal) v = refusing v 1 (omega arith, omega arith)
monitor_kept K s came get_list v = refusing v 1 (omega arith, omega arith)
monitor_kept K s came (bring c p) v = brought_kept K s p came v (faults_of_brought K v.now c p) refl
monitor_kept K s came (present c p q) v = refusing v 1 (omega arith, omega arith)
monitor_kept K s came (inclusion path) v = refusing v 1 (omega arith, omega arith)
monitor_kept K s came (consistency path) v = refusing v 1 (omega arith, omega arith)
monitor_kept K s came (entries cs) v = refusing v 1 (omega arith, omega arith)
monitor_kept K s came (answer a) v = refusing v 1 (omega arith, omega arith)
monitor_kept K s came accepted v = refusing v 1 (omega arith, omega arith)
monitor_kept K s came (refused cause) v = refusing v 1 (omega arith, omega arith)

pub refusals_change_nothing : RefusalsChangeNothing
refusals_change_nothing = record {
  authority = λ K s found m v. (authority_kept K s found m v).is;
  authority_itself = λ K s serial v. (withdraw_kept K s serial v (account_of serial v.accounts)).is;
  log = λ K m v. (log_kept K m v).is;
  monitor = monitor_kept;
  monitor_of_head = λ K f v. fetched_kept K f v (faults_of K (v.logs f.head.log) f) refl;
  relying = λ K s m v. (relying_kept K s m v).is;
}

-- earlier ticks

pub earlier_ticks_change_nothing : EarlierTicksChangeNothing
earlier_ticks_change_nothing = record {
  authority = λ K s t v l. let e = cond-true (ltb t v.now) _ _ (lt-ltb t v.now l) in (ap (λ (x : Tick AuthorityView). x.view) e, ap (λ (x : Tick AuthorityView). x.sends) e);
  log = λ K t v l. (cond-false (ltb v.now t) _ _ (le-ltb v.now t (omega (arith, l))), refl);
  monitor = λ t v l. cond-true (ltb t v.now) _ _ (lt-ltb t v.now l);
  relying = λ t v l. cond-true (ltb t v.now) _ _ (lt-ltb t v.now l);
}

-- the kinds of others

authority_others : (K : Coding) (s : Settings) (found : Option Bytes) (m : Message) (v : AuthorityView) → ¬ (kind m ∈ authority_kinds) → to_authority K s found m v ≡ answers v (refused 1)
authority_others K s found (certificate c) v other = refl
authority_others K s found (sct p) v other = refl
authority_others K s found (head h) v other = refl
authority_others K s found (list b) v other = refl
authority_others K s found (order name key) v other = absurd (other (Memᴰ.head refl))
authority_others K s found (challenge serial nonce) v other = refl
authority_others K s found (published serial) v other = absurd (other (Memᴰ.tail (Memᴰ.head refl)))
authority_others K s found (submit c) v other = refl
authority_others K s found get_head v other = refl
authority_others K s found (get_inclusion place count) v other = refl
authority_others K s found (get_consistency from to) v other = refl
authority_others K s found (get_entries from to) v other = refl
authority_others K s found (revoke serial seal) v other = absurd (other (Memᴰ.tail (Memᴰ.tail (Memᴰ.head refl))))
authority_others K s found get_list v other = absurd (other (Memᴰ.tail (Memᴰ.tail (Memᴰ.tail (Memᴰ.head refl)))))
authority_others K s found (bring c p) v other = refl
authority_others K s found (present c p q) v other = refl
authority_others K s found (inclusion path) v other = refl
authority_others K s found (consistency path) v other = refl
authority_others K s found (entries cs) v other = refl
authority_others K s found (answer a) v other = refl
authority_others K s found accepted v other = refl
authority_others K s found (refused cause) v other = refl

log_others : (K : Coding) (m : Message) (v : LogView) → ¬ (kind m ∈ log_kinds) → to_log K m v ≡ answers v (refused 1)
log_others K (certificate c) v other = refl
log_others K (sct p) v other = refl
log_others K (head h) v other = refl
log_others K (list b) v other = refl
log_others K (order name key) v other = refl
log_others K (challenge serial nonce) v other = refl
log_others K (published serial) v other = refl
log_others K (submit c) v other = absurd (other (Memᴰ.head refl))
log_others K get_head v other = absurd (other (Memᴰ.tail (Memᴰ.head refl)))
log_others K (get_inclusion place count) v other = absurd (other (Memᴰ.tail (Memᴰ.tail (Memᴰ.head refl))))
log_others K (get_consistency from to) v other = absurd (other (Memᴰ.tail (Memᴰ.tail (Memᴰ.tail (Memᴰ.head refl)))))
log_others K (get_entries from to) v other = absurd (other (Memᴰ.tail (Memᴰ.tail (Memᴰ.tail (Memᴰ.tail (Memᴰ.head refl))))))
log_others K (revoke serial seal) v other = refl
log_others K get_list v other = refl
log_others K (bring c p) v other = refl
log_others K (present c p q) v other = refl
log_others K (inclusion path) v other = refl
log_others K (consistency path) v other = refl
log_others K (entries cs) v other = refl
log_others K (answer a) v other = refl
log_others K accepted v other = refl
log_others K (refused cause) v other = refl

monitor_others : (K : Coding) (s : Settings) (came : Option Fetched) (m : Message) (v : MonitorView) → ¬ (kind m ∈ monitor_kinds) → to_monitor K s came m v ≡ says v [] (refused 1)
monitor_others K s came (certificate c) v other = refl
monitor_others K s came (sct p) v other = refl
monitor_others K s came (head h) v other = refl
monitor_others K s came (list b) v other = refl
monitor_others K s came (order name key) v other = refl
monitor_others K s came (challenge serial nonce) v other = refl
monitor_others K s came (published serial) v other = refl
monitor_others K s came (submit c) v other = refl
monitor_others K s came get_head v other = refl
monitor_others K s came (get_inclusion place count) v other = refl
monitor_others K s came (get_consistency from to) v other = refl
monitor_others K s came (get_entries from to) v other = refl
monitor_others K s came (revoke serial seal) v other = refl
monitor_others K s came get_list v other = refl
monitor_others K s came (bring c p) v other = absurd (other (Memᴰ.head refl))
monitor_others K s came (present c p q) v other = refl
monitor_others K s came (inclusion path) v other = refl
monitor_others K s came (consistency path) v other = refl
monitor_others K s came (entries cs) v other = refl
monitor_others K s came (answer a) v other = refl
monitor_others K s came accepted v other = refl
monitor_others K s came (refused cause) v other = refl

relying_others : (K : Coding) (s : Settings) (m : Message) (v : RelyingView) → ¬ (kind m ∈ relying_kinds) → to_relying K s m v ≡ answers v (refused 1)
relying_others K s (certificate c) v other = refl
relying_others K s (sct p) v other = refl
relying_others K s (head h) v other = refl
relying_others K s (list b) v other = absurd (other (Memᴰ.head refl))
relying_others K s (order name key) v other = refl
relying_others K s (challenge serial nonce) v other = refl
relying_others K s (published serial) v other = refl
relying_others K s (submit c) v other = refl
relying_others K s get_head v other = refl
relying_others K s (get_inclusion place count) v other = refl
relying_others K s (get_consistency from to) v other = refl
relying_others K s (get_entries from to) v other = refl
relying_others K s (revoke serial seal) v other = refl
relying_others K s get_list v other = refl
relying_others K s (bring c p) v other = refl
relying_others K s (present c p q) v other = absurd (other (Memᴰ.tail (Memᴰ.head refl)))
relying_others K s (inclusion path) v other = refl
relying_others K s (consistency path) v other = refl
relying_others K s (entries cs) v other = refl
relying_others K s (answer a) v other = refl
relying_others K s accepted v other = refl
relying_others K s (refused cause) v other = refl

pub kinds_of_others : KindsOfOthers
kinds_of_others = record { authority = authority_others; log = log_others; monitor = monitor_others; relying = relying_others }
