-- What a monitor answers to a promise that is brought to it is so. Assumes nothing.
use Rattle.std.proofs.Common.{◌≡◌, ℕ, suc, ◌+◌, ◌^◌, ◌<◌, ◌≤◌, true, false, cond, List, [], ◌∷◌, length, Some, None, Option, sym, refl, ap, ◌∙◌, subst, inl, inr, arith}
use mathlib.Core.List.Memᴰ
use Rattle.std.proofs.lemmas.Bool.{cond_both, cond-true, and_parts, and_from, or_parts, not-false, eq-eqb, leb-true, leb-false}
use Rattle.merkle_theory.specs.Bytes.{over_leaves}
use Rattle.merkle_theory.specs.Claims.{Stands}
use Rattle.merkle_theory.specs.Tree.{path, PathLeads}
use Rattle.merkle_theory.proofs.There.{path-there}
use Rattle.model.specs.Lists.{◌∈◌}
use Rattle.model.specs.Objects.{Certificate}
use Rattle.wire_theory.specs.Bytes.{Bytes}
use Rattle.wire_theory.specs.Messages.{SignedSct, SignedHead, Settings, MonitorAnswer}
use Rattle.wire_theory.specs.Messages.Message.{bring, answer}
use Rattle.wire_theory.specs.Messages.MonitorAnswer.{included, not_due, convicts, no_head_so_late}
use Rattle.parties.specs.Coding.{Coding, same_bytes, root_of, node_of}
use Rattle.parties.specs.Steps.{first_fault, or_else, too_large}
use Rattle.parties.specs.Evidence.{is_late, judge}
use Rattle.parties.specs.Evidence.Verdict.{Convicts}
use Rattle.parties.specs.Judging.{Tells}
use Rattle.parties.specs.Monitor.{Seen, MonitorView, Fetched, new_monitor, one_further, place_of, placed, is_due, convicting, answer_by, lastly, asked_for, asking, answering, faults_of_brought, brought_by}
use Rattle.parties.specs.RelyingParty.{leads_to, convicted}
use Rattle.parties.specs.Handling.{kind}
use Rattle.parties.specs.Lives.{MonitorEvent, MonitorRun}
use Rattle.parties.specs.Lives.Run.{onward}
use Rattle.parties.specs.MonitorInvariants.{HeadOver, Over, LookedThrough}
use Rattle.parties.specs.LogInvariants.{Signed}
use Rattle.parties.specs.RelyingInvariants.{PromiseFor}
use Rattle.parties.specs.MonitorAnswers.{Says, Settles, Answered, AnswersAreTrue}
use Rattle.parties.proofs.Compared.{same_true, same_false, same_from}
use Rattle.parties.proofs.Faults.{first_fault_none, not_some, same_some}
use Rattle.parties.proofs.Judging.{judges_right}
use Rattle.parties.proofs.MonitorInvariants.{monitor_invariants_hold}

-- the place of a digest

place_stands : (d : Bytes) (ds : List Bytes) (i : ℕ) → place_of d ds ≡ Some i → Stands ds i d
unfolding place_of
place_stands d [] i = λ q. not_some i (sym q)
place_stands d (e ∷ es) i = cond_both (same_bytes d e) (Some 0) (one_further (place_of d es)) (λ o. o ≡ Some i → Stands (e ∷ es) i d)
    (λ h q. subst (λ (n : ℕ). Stands (e ∷ es) n d) (same_some 0 i q) (omega arith, λ x. sym (same_true d e h))) (λ h q. further (place_of d es) refl q (place_stands d es))
  where
    further : (o : Option ℕ) → place_of d es ≡ o → one_further o ≡ Some i → ((j : ℕ) → place_of d es ≡ Some j → Stands es j d) → Stands (e ∷ es) i d
    further None f q rest = not_some i (sym q)
    further (Some j) f q rest = let (l, x) = rest j f in subst (λ (n : ℕ). Stands (e ∷ es) n d) (same_some (suc j) i q) (omega (arith, l), x)

no_place : (d : Bytes) (ds : List Bytes) → place_of d ds ≡ None → ¬ (d ∈ ds)
unfolding place_of
no_place d [] = λ q m. elim m [ ]
no_place d (e ∷ es) = cond_both (same_bytes d e) (Some 0) (one_further (place_of d es)) (λ o. o ≡ None → ¬ (d ∈ e ∷ es)) (λ h q. not_some 0 q)
    (λ h q m. elim (Memᴰ.cases_cons m) [ inl z ↦ same_false d e h z | inr t ↦ further (place_of d es) refl q (no_place d es) t ])
  where
    further : (o : Option ℕ) → place_of d es ≡ o → one_further o ≡ None → (place_of d es ≡ None → ¬ (d ∈ es)) → ¬ (d ∈ es)
    further None f q rest = rest f
    further (Some j) f q rest = not_some (suc j) q

-- what was brought and is right
pub record Brought (K : Coding) (t : ℕ) (c : Certificate) (p : SignedSct) : Type 0 where
  pub certificate : Signed K c
  pub promise : PromiseFor K c t p
  pub in_range : p.at < 2 ^ 63

brought : (K : Coding) (t : ℕ) (c : Certificate) (p : SignedSct) → first_fault (faults_of_brought K t c p) ≡ None → Brought K t c p
brought K t c p none =
    let (unknown, none2) = first_fault_none _ _ none in
    let (unsigned, none3) = first_fault_none _ _ none2 in
    let (unfit, none4) = first_fault_none _ _ none3 in
    let (large, none5) = first_fault_none _ _ none4 in
    let (issuer, log) = and_parts _ _ (not-false _ unknown) in
    let (signed, promised) = and_parts _ _ (not-false _ unsigned) in
    let (digest, past) = and_parts _ _ (not-false _ unfit) in
    record {
      certificate = record { known = issuer; signed = same_true _ _ signed };
      promise = record { known = log; signed = same_true _ _ promised; digest = same_true _ _ digest; not_future = leb-true _ _ past };
      in_range = leb-false _ _ (or_parts (too_large c.expiry) _ (or_parts (too_large c.serial) _ large).1).1;
    }

-- what it has tells its answer

module _ (K : Coding) (s : Settings) (t : ℕ) (p : SignedSct) (known : K.knows_log p.log ≡ true) (signed : p.seal ≡ K.seal_sct p) (small : p.at < 2 ^ 63) (x : Seen) where
  -- an answer that is so, and settles
  pub record Right (a : MonitorAnswer) : Type 0 where
    pub says : Says K s t p x a
    pub settles : Settles K s p a

  stands_below : (h : SignedHead) (place : ℕ) → x.head ≡ Some h → HeadOver K p.log x.digests h → Stands x.digests place p.digest →
      Right (included h place (path (over_leaves K.hash) place x.digests))
  stands_below h place e over stands =
      let way : List Bytes = path (over_leaves K.hash) place x.digests in
      let leads : PathLeads (node_of K) (length x.digests) place p.digest way (root_of K x.digests) = path-there (over_leaves K.hash) x.digests place p.digest stands in
      let to : PathLeads (node_of K) h.count place p.digest way h.root =
      subst (λ (n : ℕ). PathLeads (node_of K) n place p.digest way h.root) (sym over.count)
      (subst (λ (r : Bytes). PathLeads (node_of K) (length x.digests) place p.digest way r) (sym over.root) leads) in
      record {
        says = (e, stands, to);
        settles = λ u. cond-true _ _ _ (and_from _ _ (eq-eqb _ _ over.by_it) (and_from _ _ (same_from _ _ over.signed) (ap (leads_to h.root) to ∙ same_from _ _ refl)));
      }

  convicts_it : (h : SignedHead) → x.head ≡ Some h → HeadOver K p.log x.digests h → p.at + s.mmd ≤ h.at → ¬ (p.digest ∈ x.digests) → Right (convicts h x.digests)
  convicts_it h e over late missing =
      let verdict : judge K s p h x.digests ≡ Convicts = (judges_right K s p h x.digests Convicts).1
      (Tells.convicts (known, ap K.knows_log over.by_it ∙ over.known) (signed, over.signed) (sym over.by_it) late missing (sym over.count, sym over.root) (small, over.in_range)) in
      record { says = (e, refl, verdict); settles = λ u. cond-true _ _ _ (ap convicted verdict) }

  -- with no answer yet, none can be given but that there is no head so late
  abbrev Outcome : Option MonitorAnswer → Type 0
  Outcome None = Right no_head_so_late
  Outcome (Some a) = Right a

  is_early : is_due s t p ≡ false → Right not_due
  is_early e = record { says = leb-false _ _ e; settles = tt }

  outcome_by : (o : Option SignedHead) → x.head ≡ o → Over K p.log x.digests o → (place : Option ℕ) → place_of p.digest x.digests ≡ place →
      Outcome (or_else (placed K x o place) (or_else (cond (is_due s t p) None (Some not_due)) (convicting s p x o)))
  outcome_by None e over place f = cond_both (is_due s t p) None (Some not_due) (λ o. Outcome (or_else o None))
      (λ due. record {
        says = (leb-true _ _ due, (λ h q. not_some h (sym q ∙ e)), λ m. elim (subst (λ (ds : List Bytes). p.digest ∈ ds) over m) [ ]);
        settles = tt;
      })
      is_early
  outcome_by (Some h) e over None f = cond_both (is_due s t p) None (Some not_due) (λ o. Outcome (or_else o (convicting s p x (Some h))))
      (λ due. cond_both (is_late s p h) (Some (convicts h x.digests)) None Outcome (λ late. convicts_it h e over (leb-true _ _ late) (no_place _ _ f))
      (λ early. record {
        says = (leb-true _ _ due, (λ g q. subst (λ (k : SignedHead). k.at < p.at + s.mmd) (same_some h g (sym e ∙ q)) (leb-false _ _ early)), no_place _ _ f);
        settles = tt;
      }))
      is_early
  outcome_by (Some h) e over (Some place) f = stands_below h place e over (place_stands _ _ place f)

  outcome : Over K p.log x.digests x.head → Outcome (answer_by K s t p x)
  outcome over = outcome_by x.head refl over (place_of p.digest x.digests) refl

same_answer : (a c : MonitorAnswer) → answer a ≡ answer c → a ≡ c
same_answer a c e = cc

-- the head that it has of the promise's log is over the digests that it has
abbrev OverIn : Coding → SignedSct → MonitorView → Type 0
OverIn K p w = Over K p.log (w.logs p.log).digests (w.logs p.log).head

lastly_view : (w : MonitorView) (tells : List Certificate) (o : Option MonitorAnswer) → (lastly w tells o).view ≡ w
lastly_view w tells None = refl
lastly_view w tells (Some a) = refl

module _ (K : Coding) (s : Settings) (u : ℕ) (c : Certificate) (p : SignedSct) (b : Brought K u c p) where
  -- what it has of the log after it answered is so as it says
  abbrev RightOf : MonitorView → MonitorAnswer → Type 0
  RightOf w a = Right K s w.now p b.promise.known b.promise.signed b.in_range (w.logs p.log) a

  abbrev OutcomeOf : MonitorView → Option MonitorAnswer → Type 0
  OutcomeOf w o = Outcome K s w.now p b.promise.known b.promise.signed b.in_range (w.logs p.log) o

  outcome_of : (w : MonitorView) → OverIn K p w → OutcomeOf w (answer_by K s w.now p (w.logs p.log))
  outcome_of w over = outcome K s w.now p b.promise.known b.promise.signed b.in_range (w.logs p.log) over

  lastly_right : (w : MonitorView) (tells : List Certificate) (o : Option MonitorAnswer) → OutcomeOf w o → (a : MonitorAnswer) → (lastly w tells o).says ≡ answer a → RightOf (lastly w tells o).view a
  lastly_right w tells None r a e = subst (RightOf w) (same_answer no_head_so_late a e) r
  lastly_right w tells (Some d) r a e = subst (RightOf w) (same_answer d a e) r

  answering_right : (came : Option Fetched) (v : MonitorView) (o : Option MonitorAnswer) → OutcomeOf v o → OverIn K p (answering K s p came v o).view →
      (a : MonitorAnswer) → (answering K s p came v o).says ≡ answer a → RightOf (answering K s p came v o).view a
  answering_right came v None r over a e =
      let w : MonitorView = (asked_for K p.log came (asking p.log v)).view in
      let o : Option MonitorAnswer = answer_by K s w.now p (w.logs p.log) in
      lastly_right w _ o (outcome_of w (subst (OverIn K p) (lastly_view w _ o) over)) a e
  answering_right came v (Some d) r over a e = subst (RightOf v) (same_answer d a e) r

pub answers_are_true : AnswersAreTrue
answers_are_true K s name v r came c p a e = by (first_fault (faults_of_brought K v.now c p)) refl (after (onward r (MonitorEvent.Gets came (bring c p)))) e
  where
    after : {w : MonitorView} → MonitorRun K s (new_monitor name) w → OverIn K p w
    after {w} run = let x : LookedThrough K name p.log (w.logs p.log) = (monitor_invariants_hold K s).looked_through name w run p.log in x.head

    by : (o : Option ℕ) → first_fault (faults_of_brought K v.now c p) ≡ o → OverIn K p (brought_by K s p came v o).view → (brought_by K s p came v o).says ≡ answer a →
        Answered K s v.now c p (brought_by K s p came v o).view a
    by None none over said =
        let b : Brought K v.now c p = brought K v.now c p none in
        let x = answering_right K s v.now c p b came v (answer_by K s v.now p (v.logs p.log)) (outcome_of K s v.now c p b v (after r)) over a said in
        record { certificate = b.certificate; promise = b.promise; says = x.says; settles = x.settles }
    by (Some n) fault over said = absurd (omega (arith, ap kind said))
