-- A log's entries only grow, none stands twice, and every promise is kept by the next tick. Assumes nothing.
use Rattle.std.proofs.Common.{◌≡◌, ℕ, suc, ◌+◌, ◌<◌, ◌≤◌, true, false, cond, not, ◌&&◌, ltb, ◌⊎◌, List, [], ◌∷◌, ◌++◌, length, sym, refl, ap, ◌∙◌, subst, inl, inr, le_refl, arith, length-append}
use mathlib.Core.List.Memᴰ
use mathlib.Core.List.{map-append}
use Rattle.std.proofs.lemmas.Bool.{cond_both, and_cases, or_cases, not-false, leb-false, ltb-true}
use Rattle.model.specs.Lists.{◌∈◌, Begins}
use Rattle.model.specs.Objects.{Certificate}
use Rattle.wire_theory.specs.Bytes.{Bytes}
use Rattle.wire_theory.specs.Messages.{Message, SignedSct}
use Rattle.wire_theory.specs.Messages.Message.{certificate, sct, head, list, order, challenge, published, submit, get_head, get_inclusion, get_consistency, get_entries, revoke, get_list, bring, present, inclusion, consistency, entries, answer, accepted, refused}
use Rattle.parties.specs.Coding.{Coding, has, leaf_of, leaves_of}
use Rattle.parties.specs.Steps.{Step, answers}
use Rattle.parties.specs.Log.{LogView, new_log, is_merged, is_known, is_full, promise_of, promised, merged_with, merges}
use Rattle.parties.specs.Handling.{kind, to_log}
use Rattle.parties.specs.Lives.{LogEvent, log_after, LogRun}
use Rattle.parties.specs.Lives.Run.{here, onward}
use Rattle.parties.specs.LogInvariants.{Distinct, Signed, Promised, LogInvariantsHold}
use Rattle.parties.proofs.Compared.{same_true, has_true, has_false}
use Rattle.parties.proofs.Faults.{unless_cases, first_fault_none}
use Rattle.parties.proofs.Runs.{kept, begins_refl, begins_trans}

-- a certificate that may be promised
pub record MayPromise (K : Coding) (v : LogView) (c : Certificate) : Type 0 where
  pub signed : Signed K c
  pub room : (is_full v && not (is_known K c v)) ≡ false

-- what a log does with a message: it promises what was submitted, or nothing changes
pub data Did (K : Coding) (v : LogView) (m : Message) : Step LogView → Type 0 where
  nothing : {step : Step LogView} → step.view ≡ v → ¬ (kind step.answer ≡ 2) → Did K v m step
  promises : (c : Certificate) → m ≡ submit c → MayPromise K v c → Did K v m (answers (promised K c v) (sct (promise_of K c v)))

did : (K : Coding) (m : Message) (v : LogView) → Did K v m (to_log K m v)
did K (certificate c) v = nothing refl (λ z. omega (arith, z))
did K (sct p) v = nothing refl (λ z. omega (arith, z))
did K (head h) v = nothing refl (λ z. omega (arith, z))
did K (list b) v = nothing refl (λ z. omega (arith, z))
did K (order name key) v = nothing refl (λ z. omega (arith, z))
did K (challenge serial nonce) v = nothing refl (λ z. omega (arith, z))
did K (published serial) v = nothing refl (λ z. omega (arith, z))
did K (submit c) v = unless_cases _ v _ (Did K v (submit c)) (λ n e. nothing refl (λ z. omega (arith, z))) (λ none. let (unknown, none2) = first_fault_none _ _ none in
    let (unsigned, none3) = first_fault_none _ _ none2 in
    promises c refl (record { signed = record { known = not-false _ unknown; signed = same_true _ _ (not-false _ unsigned) }; room = (first_fault_none _ _ none3).0 }))
did K get_head v = unless_cases _ v _ (Did K v get_head) (λ n e. nothing refl (λ z. omega (arith, z))) (λ e. nothing refl (λ z. omega (arith, z)))
did K (get_inclusion place count) v = unless_cases _ v _ (Did K v (get_inclusion place count)) (λ n e. nothing refl (λ z. omega (arith, z))) (λ e. nothing refl (λ z. omega (arith, z)))
did K (get_consistency from to) v = unless_cases _ v _ (Did K v (get_consistency from to)) (λ n e. nothing refl (λ z. omega (arith, z))) (λ e. nothing refl (λ z. omega (arith, z)))
did K (get_entries from to) v = unless_cases _ v _ (Did K v (get_entries from to)) (λ n e. nothing refl (λ z. omega (arith, z))) (λ e. nothing refl (λ z. omega (arith, z)))
did K (revoke serial seal) v = nothing refl (λ z. omega (arith, z))
did K get_list v = nothing refl (λ z. omega (arith, z))
did K (bring c p) v = nothing refl (λ z. omega (arith, z))
did K (present c p q) v = nothing refl (λ z. omega (arith, z))
did K (inclusion path) v = nothing refl (λ z. omega (arith, z))
did K (consistency path) v = nothing refl (λ z. omega (arith, z))
did K (entries cs) v = nothing refl (λ z. omega (arith, z))
did K (answer a) v = nothing refl (λ z. omega (arith, z))
did K accepted v = nothing refl (λ z. omega (arith, z))
did K (refused cause) v = nothing refl (λ z. omega (arith, z))

-- merging

leaf_there : (K : Coding) (c : Certificate) (cs : List Certificate) → c ∈ cs → leaf_of K c ∈ leaves_of K cs
leaf_there K c cs m = Memᴰ.map (leaf_of K) m

leaves_grow : (K : Coding) {es fs : List Certificate} → Begins es fs → {d : Bytes} → d ∈ leaves_of K es → d ∈ leaves_of K fs
leaves_grow K {es} b {d} m = subst (λ (xs : List Certificate). d ∈ leaves_of K xs) (sym b.is) (subst (λ (ds : List Bytes). d ∈ ds) (sym (map-append (leaf_of K) es b.more)) (Memᴰ.append_left _ m))

distinct_with : (ds : List Bytes) (d : Bytes) → Distinct ds → ¬ (d ∈ ds) → Distinct (ds ++ (d ∷ []))
distinct_with [] d u n = ((λ m. elim m [ ]), tt)
distinct_with (e ∷ ds) d (x, u) n =
    ((λ m. elim (Memᴰ.append_cases ds m) [ inl l ↦ x l | inr r ↦ n (Memᴰ.head (sym (Memᴰ.eq_of_singleton r))) ]), distinct_with ds d u (λ m. n (Memᴰ.tail m)))

-- the entries with one more, unless it is there
with_one : (K : Coding) → List Certificate → Certificate → List Certificate
with_one K es c = cond (has (leaf_of K c) (leaves_of K es)) es (es ++ (c ∷ []))

with_one_begins : (K : Coding) (es : List Certificate) (c : Certificate) → Begins es (with_one K es c)
unfolding with_one
with_one_begins K es c = cond_both _ _ _ (Begins es) (λ e. begins_refl es) (λ e. record { more = c ∷ []; is = refl })

with_one_has : (K : Coding) (es : List Certificate) (c : Certificate) → leaf_of K c ∈ leaves_of K (with_one K es c)
unfolding with_one
with_one_has K es c = cond_both (has (leaf_of K c) (leaves_of K es)) es (es ++ (c ∷ [])) (λ xs. leaf_of K c ∈ leaves_of K xs) (λ e. has_true _ _ e)
    (λ e. leaf_there K c (es ++ (c ∷ [])) (Memᴰ.append_right es (Memᴰ.head refl)))

with_one_distinct : (K : Coding) (es : List Certificate) (c : Certificate) → Distinct (leaves_of K es) → Distinct (leaves_of K (with_one K es c))
unfolding with_one
with_one_distinct K es c u = cond_both (has (leaf_of K c) (leaves_of K es)) es (es ++ (c ∷ [])) (λ xs. Distinct (leaves_of K xs)) (λ e. u)
    (λ e. subst Distinct (sym (map-append (leaf_of K) es (c ∷ []))) (distinct_with _ _ u (has_false _ _ e)))

merged_begins : (K : Coding) (es cs : List Certificate) → Begins es (merged_with K es cs)
unfolding merged_with with_one
merged_begins K es [] = begins_refl es
merged_begins K es (c ∷ cs) = begins_trans (with_one_begins K es c) (merged_begins K (with_one K es c) cs)

merged_has : (K : Coding) (es cs : List Certificate) (c : Certificate) → c ∈ cs → leaf_of K c ∈ leaves_of K (merged_with K es cs)
unfolding merged_with with_one
merged_has K es [] c m = elim m [ ]
merged_has K es (d ∷ cs) c m = elim (Memᴰ.cases_cons m) [
  | inl q ↦ subst (λ (x : Certificate). leaf_of K x ∈ leaves_of K (merged_with K (with_one K es d) cs)) (sym q) (leaves_grow K (merged_begins K (with_one K es d) cs) (with_one_has K es d))
  | inr t ↦ merged_has K (with_one K es d) cs c t
]

merged_distinct : (K : Coding) (es cs : List Certificate) → Distinct (leaves_of K es) → Distinct (leaves_of K (merged_with K es cs))
unfolding merged_with with_one
merged_distinct K es [] u = u
merged_distinct K es (c ∷ cs) u = merged_distinct K (with_one K es c) cs (with_one_distinct K es c u)

merged_with_none : (K : Coding) (es : List Certificate) → merged_with K es [] ≡ es
unfolding merged_with
merged_with_none K es = refl

merged_with_last : (K : Coding) (es cs : List Certificate) (c : Certificate) → merged_with K es (cs ++ (c ∷ [])) ≡ with_one K (merged_with K es cs) c
unfolding merged_with with_one
merged_with_last K es [] c = refl
merged_with_last K es (d ∷ cs) c = merged_with_last K (with_one K es d) cs c

with_one_length : (K : Coding) (es : List Certificate) (c : Certificate) → length (with_one K es c) ≤ suc (length es)
unfolding with_one
with_one_length K es c = cond_both (has (leaf_of K c) (leaves_of K es)) es (es ++ (c ∷ [])) (λ xs. length xs ≤ suc (length es)) (λ e. omega arith) (λ e. omega (arith, length-append es (c ∷ [])))

with_one_there : (K : Coding) (es : List Certificate) (c : Certificate) → leaf_of K c ∈ leaves_of K es → with_one K es c ≡ es
unfolding with_one
with_one_there K es c m = cond_both (has (leaf_of K c) (leaves_of K es)) es (es ++ (c ∷ [])) (λ xs. xs ≡ es) (λ e. refl) (λ e. absurd (has_false _ _ e m))

merged_length : (K : Coding) (es cs : List Certificate) → length (merged_with K es cs) ≤ length es + length cs
unfolding merged_with with_one
merged_length K es [] = omega arith
merged_length K es (c ∷ cs) = omega (arith, merged_length K (with_one K es c) cs, with_one_length K es c)

-- any event

-- a log that also owes a certificate
abbrev owing : Certificate → LogView → LogView
owing c v = record { number = v.number; now = v.now; merged = v.merged; pending = v.pending ++ (c ∷ []) }

log_step : (K : Coding) (P : LogView → Type 0) (u : LogView) → P u → ((t : ℕ) → u.now < t → P (merges K t u)) →
    ((c : Certificate) → MayPromise K u c → P (owing c u)) → (e : LogEvent) → P (log_after K e u)
log_step K P u p merging owes (LogEvent.Ticks t) = cond_both (ltb u.now t) (merges K t u) u P (λ e. merging t (ltb-true _ _ e)) (λ e. p)
log_step K P u p merging owes (LogEvent.Gets m) = by (to_log K m u) (did K m u)
  where
    by : (step : Step LogView) → Did K u m step → P step.view
    by step (nothing q z) = subst P (sym q) p
    by step (promises c q room) = cond_both (is_merged K c u) u (owing c u) P (λ e. p) (λ e. owes c room)

time : (K : Coding) (v w : LogView) → LogRun K v w → (v.now ≤ w.now) × (w.number ≡ v.number)
time K v w r = kept (λ u. (v.now ≤ u.now) × (u.number ≡ v.number))
    (λ e u p. log_step K (λ x. (v.now ≤ x.now) × (x.number ≡ v.number)) u p (λ t l. (omega (arith, p.0), p.1)) (λ c room. p) e) r (le_refl _, refl)

entries_grow : (K : Coding) (v w : LogView) → LogRun K v w → Begins v.merged w.merged
entries_grow K v w r = kept (λ u. Begins v.merged u.merged)
    (λ e u p. log_step K (λ x. Begins v.merged x.merged) u p (λ t l. begins_trans p (merged_begins K u.merged u.pending)) (λ c room. p) e) r (begins_refl _)

none_twice : (K : Coding) (number : ℕ) (v : LogView) → LogRun K (new_log number) v → Distinct (leaves_of K v.merged)
none_twice K number v r = kept (λ u. Distinct (leaves_of K u.merged))
    (λ e u p. log_step K (λ x. Distinct (leaves_of K x.merged)) u p (λ t l. merged_distinct K u.merged u.pending p) (λ c room. p) e) r tt

-- room

all_merged_fit : (K : Coding) (u : LogView) (c : Certificate) → (is_full u && not (is_known K c u)) ≡ false → length (merged_with K u.merged u.pending) ≤ 65536 →
    length (merged_with K u.merged (u.pending ++ (c ∷ []))) ≤ 65536
all_merged_fit K u c room fit = subst (λ (es : List Certificate). length es ≤ 65536) (sym (merged_with_last K u.merged u.pending c)) (elim (and_cases _ _ room) [
  | inl space ↦
      let few : length u.merged + length u.pending < 65536 = leb-false _ _ space in
      omega (arith, few, merged_length K u.merged u.pending, with_one_length K (merged_with K u.merged u.pending) c)
  | inr known ↦ subst (λ (es : List Certificate). length es ≤ 65536) (sym (with_one_there K (merged_with K u.merged u.pending) c (there (or_cases _ _ (not-false _ known))))) fit
])
  where
    there : (is_merged K c u ≡ true) ⊎ (has (leaf_of K c) (leaves_of K u.pending) ≡ true) → leaf_of K c ∈ leaves_of K (merged_with K u.merged u.pending)
    there (inl m) = leaves_grow K (merged_begins K u.merged u.pending) (has_true _ _ m)
    there (inr p) = let (d, i, q) = Memᴰ.of_map (leaf_of K) u.pending (has_true _ _ p) in
        subst (λ (x : Bytes). x ∈ leaves_of K (merged_with K u.merged u.pending)) q (merged_has K u.merged u.pending d i)

entries_fit : (K : Coding) (number : ℕ) (v : LogView) → LogRun K (new_log number) v → length v.merged ≤ 65536
entries_fit K number v r =
    let all : length (merged_with K v.merged v.pending) ≤ 65536 = kept (λ u. length (merged_with K u.merged u.pending) ≤ 65536)
    (λ e u p. log_step K (λ x. length (merged_with K x.merged x.pending) ≤ 65536) u p
    (λ t l. subst (λ (es : List Certificate). length es ≤ 65536) (sym (merged_with_none K (merged_with K u.merged u.pending))) p) (λ c may. all_merged_fit K u c may.room p) e) r
    (subst (λ (es : List Certificate). length es ≤ 65536) (sym (merged_with_none K [])) (omega arith)) in
    let b = merged_begins K v.merged v.pending in
    omega (arith, all, ap (λ (es : List Certificate). length es) b.is, length-append v.merged b.more)

-- signatures

with_one_only : (K : Coding) (es : List Certificate) (d c : Certificate) → c ∈ with_one K es d → (c ∈ es) ⊎ (c ≡ d)
unfolding with_one
with_one_only K es d c = cond_both (has (leaf_of K d) (leaves_of K es)) es (es ++ (d ∷ [])) (λ xs. c ∈ xs → (c ∈ es) ⊎ (c ≡ d)) (λ e m. inl m)
    (λ e m. elim (Memᴰ.append_cases es m) [ inl l ↦ inl l | inr n ↦ inr (Memᴰ.eq_of_singleton n) ])

merged_only : (K : Coding) (es cs : List Certificate) (c : Certificate) → c ∈ merged_with K es cs → (c ∈ es) ⊎ (c ∈ cs)
unfolding merged_with with_one
merged_only K es [] c m = inl m
merged_only K es (d ∷ cs) c m = elim (merged_only K (with_one K es d) cs c m) [
  | inl l ↦ elim (with_one_only K es d c l) [ inl n ↦ inl n | inr q ↦ inr (Memᴰ.head q) ]
  | inr n ↦ inr (Memᴰ.tail n)
]

entries_are_signed : (K : Coding) (number : ℕ) (v : LogView) → LogRun K (new_log number) v → (c : Certificate) → (c ∈ v.merged) ⊎ (c ∈ v.pending) → Signed K c
entries_are_signed K number v r = kept (λ u. (c : Certificate) → (c ∈ u.merged) ⊎ (c ∈ u.pending) → Signed K c)
    (λ e u p. log_step K (λ x. (c : Certificate) → (c ∈ x.merged) ⊎ (c ∈ x.pending) → Signed K c) u p
    (λ t l c m. elim m [ inl i ↦ p c (merged_only K u.merged u.pending c i) | inr i ↦ elim i [ ] ])
    (λ d may c m. elim m [
      | inl i ↦ p c (inl i)
      | inr i ↦ elim (Memᴰ.append_cases u.pending i) [ inl l ↦ p c (inr l) | inr n ↦ subst (Signed K) (sym (Memᴰ.eq_of_singleton n)) may.signed ]
    ]) e) r (λ c m. elim m [ inl i ↦ elim i [ ] | inr i ↦ elim i [ ] ])

-- a certificate is owed since a tick, or merged
abbrev Owed : Coding → ℕ → Certificate → LogView → Type 0
Owed K t c u = ((u.now ≡ t) × (c ∈ u.pending)) ⊎ (leaf_of K c ∈ leaves_of K u.merged)

owed_after : (K : Coding) (t : ℕ) (c : Certificate) (e : LogEvent) (u : LogView) → Owed K t c u → Owed K t c (log_after K e u)
owed_after K t c e u (inl (q, m)) = log_step K (Owed K t c) u (inl (q, m)) (λ x l. inr (merged_has K u.merged u.pending c m)) (λ d room. inl (q, Memᴰ.append_left _ m)) e
owed_after K t c e u (inr m) = log_step K (Owed K t c) u (inr m) (λ x l. inr (leaves_grow K (merged_begins K u.merged u.pending) m)) (λ d room. inr m) e

owed_is_merged : (K : Coding) (v w : LogView) (c : Certificate) → LogRun K v w → v.now < w.now → Owed K v.now c v → leaf_of K c ∈ leaves_of K w.merged
owed_is_merged K v w c r l o = elim (kept (Owed K v.now c) (owed_after K v.now c) r o) [ inl p ↦ absurd (omega (arith, p.0)) | inr m ↦ m ]

-- promises

promised_is_owed : (K : Coding) (c : Certificate) (v : LogView) → Owed K v.now c (promised K c v)
promised_is_owed K c v = cond_both (is_merged K c v) v (owing c v) (Owed K v.now c) (λ e. inr (has_true _ _ e)) (λ e. inl (refl, Memᴰ.append_right v.pending (Memᴰ.head refl)))

promised_now : (K : Coding) (c : Certificate) (v : LogView) → (promised K c v).now ≡ v.now
promised_now K c v = cond_both (is_merged K c v) v (owing c v) (λ x. x.now ≡ v.now) (λ e. refl) (λ e. refl)

owed_is_there : (K : Coding) (t : ℕ) (c : Certificate) (v : LogView) → Owed K t c v → leaf_of K c ∈ leaves_of K (v.merged ++ v.pending)
owed_is_there K t c v (inl (q, m)) = leaf_there K c _ (Memᴰ.append_right v.merged m)
owed_is_there K t c v (inr m) = leaves_grow K (record { more = v.pending; is = refl }) m

same_promise : (p q : SignedSct) → sct p ≡ sct q → p ≡ q
same_promise p q e = cc

-- a step that answers by a promise is one that promises
pub record Gives (K : Coding) (v : LogView) (m : Message) (step : Step LogView) (p : SignedSct) : Type 0 where
  pub certificate : Certificate
  pub submitted : m ≡ submit certificate
  pub view : step.view ≡ promised K certificate v
  pub promise : p ≡ promise_of K certificate v

gives : (K : Coding) (m : Message) (v : LogView) (step : Step LogView) (p : SignedSct) → Did K v m step → step.answer ≡ sct p → Gives K v m step p
gives K m v step p (nothing q z) e = absurd (z (ap kind e))
gives K m v step p (promises c q room) e = record { certificate = c; submitted = q; view = refl; promise = sym (same_promise _ _ e) }

promise_stands : (K : Coding) (m : Message) (v : LogView) (p : SignedSct) → (to_log K m v).answer ≡ sct p →
    (p.log ≡ v.number) × (p.at ≡ v.now) × (p.digest ∈ leaves_of K ((to_log K m v).view.merged ++ (to_log K m v).view.pending))
promise_stands K m v p e = let g = gives K m v (to_log K m v) p (did K m v) e in (
  ap (λ x. x.log) g.promise,
  ap (λ x. x.at) g.promise,
  subst (λ (d : Bytes). d ∈ leaves_of K ((to_log K m v).view.merged ++ (to_log K m v).view.pending)) (sym (ap (λ x. x.digest) g.promise))
      (subst (λ (x : LogView). leaf_of K g.certificate ∈ leaves_of K (x.merged ++ x.pending)) (sym g.view)
      (owed_is_there K v.now g.certificate (promised K g.certificate v) (promised_is_owed K g.certificate v))),
)

promise_is_kept : (K : Coding) (m : Message) (v w : LogView) (p : SignedSct) → (to_log K m v).answer ≡ sct p → LogRun K (to_log K m v).view w → p.at < w.now →
    p.digest ∈ leaves_of K w.merged
promise_is_kept K m v w p e r l = let g = gives K m v (to_log K m v) p (did K m v) e in
    let c : Certificate = g.certificate in
    let run : LogRun K (promised K c v) w = subst (λ (x : LogView). LogRun K x w) g.view r in
    let at : p.at ≡ v.now = ap (λ x. x.at) g.promise in
    let owed : Owed K (promised K c v).now c (promised K c v) = subst (λ (t : ℕ). Owed K t c (promised K c v)) (sym (promised_now K c v)) (promised_is_owed K c v) in
    subst (λ (d : Bytes). d ∈ leaves_of K w.merged) (sym (ap (λ x. x.digest) g.promise))
    (owed_is_merged K (promised K c v) w c run (omega (arith, l, at, promised_now K c v)) owed)

-- what is pending

-- a promise of the present tick, in the life of a log
abbrev Fresh : Coding → LogView → LogView → ℕ → Certificate → Type 0
Fresh K start end t c = (x : Promised K start end c) × (x.promise.at ≡ t)

still_fresh : (K : Coding) (start u : LogView) (t : ℕ) (c : Certificate) (e : LogEvent) → Fresh K start u t c → Fresh K start (log_after K e u) t c
still_fresh K start u t c e (x, q) = (record { view = x.view; promise = x.promise; before = x.before; given = x.given; after = onward x.after e }, q)

fresh_after : (K : Coding) (start u : LogView) → LogRun K start u → ((c : Certificate) → c ∈ u.pending → Fresh K start u u.now c) → (e : LogEvent) (c : Certificate) →
    c ∈ (log_after K e u).pending → Fresh K start (log_after K e u) (log_after K e u).now c
fresh_after K start u r before (LogEvent.Ticks t) c = cond_both (ltb u.now t) (merges K t u) u (λ x. c ∈ x.pending → Fresh K start (log_after K (LogEvent.Ticks t) u) x.now c)
    (λ e m. elim m [ ]) (λ e m. still_fresh K start u u.now c (LogEvent.Ticks t) (before c m))
fresh_after K start u r before (LogEvent.Gets m) c = by (to_log K m u) refl (did K m u)
  where
    old : c ∈ u.pending → Fresh K start (to_log K m u).view u.now c
    old i = still_fresh K start u u.now c (LogEvent.Gets m) (before c i)

    new : (d : Certificate) → m ≡ submit d → to_log K m u ≡ answers (promised K d u) (sct (promise_of K d u)) → c ≡ d → Fresh K start (to_log K m u).view u.now c
    new d q e same = let sent : m ≡ submit c = q ∙ ap submit (sym same) in (
      record {
        view = u;
        promise = promise_of K d u;
        before = r;
        given = ap (λ n. (to_log K n u).answer) (sym sent) ∙ ap (λ (x : Step LogView). x.answer) e;
        after = subst (λ (n : Message). LogRun K (to_log K (submit c) u).view (to_log K n u).view) (sym sent) here;
      },
      refl,
    )

    by : (step : Step LogView) → to_log K m u ≡ step → Did K u m step → c ∈ step.view.pending → Fresh K start (to_log K m u).view step.view.now c
    by step e (nothing q z) = subst (λ (x : LogView). c ∈ x.pending → Fresh K start (to_log K m u).view x.now c) (sym q) old
    by step e (promises d q room) = cond_both (is_merged K d u) u (owing d u) (λ x. c ∈ x.pending → Fresh K start (to_log K m u).view x.now c) (λ z. old)
        (λ z i. elim (Memᴰ.append_cases u.pending i) [ inl l ↦ old l | inr n ↦ new d q e (Memᴰ.eq_of_singleton n) ])

pending_is_of_now : (K : Coding) (number : ℕ) (v : LogView) → LogRun K (new_log number) v → (c : Certificate) → c ∈ v.pending → Fresh K (new_log number) v v.now c
pending_is_of_now K number v here c m = elim m [ ]
pending_is_of_now K number v (onward {u = u} r e) c m = fresh_after K (new_log number) u r (pending_is_of_now K number u r) e c m

pub log_invariants_hold : LogInvariantsHold
log_invariants_hold K = record {
  time = time K;
  entries_grow = entries_grow K;
  none_twice = none_twice K;
  entries_are_signed = entries_are_signed K;
  entries_fit = entries_fit K;
  pending_is_of_now = pending_is_of_now K;
  pending_is_merged = λ v w r l c m. owed_is_merged K v w c r l (inl (refl, m));
  promise_stands = promise_stands K;
  promise_is_kept = promise_is_kept K;
}
