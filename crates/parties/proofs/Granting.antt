-- The parties don't refuse what is due. Assumes nothing.
use Rattle.std.proofs.Common.{◌≡◌, ℕ, zero, suc, ◌+◌, ◌<◌, ◌≤◌, true, false, not, ◌&&◌, eqb, ◌⊎◌, List, [], ◌∷◌, ◌++◌, length, take, drop, Some, None, Option, sym, refl, ap, ◌∙◌, subst, inl, inr, arith, take-append-drop, length-take}
use mathlib.Core.List.Memᴰ
use native.Mathlib.Nat.{min-eq_left, min-le_left}
use lib.ListN.{length-map}
use Rattle.std.proofs.lemmas.Bool.{cases_eq, eq-eqb, and_from, and_left, and_right, or_from, or_left, or_right, not_from_true, not_from_false, cond-false, le-ltb, le-leb, lt-leb, ne_eqb}
use Rattle.merkle_theory.specs.Bytes.{over_leaves}
use Rattle.merkle_theory.specs.Tree.{consistency, roots_from_consistency}
use Rattle.merkle_theory.proofs.There.{consistency-there}
use Rattle.model.specs.Lists.{◌∈◌}
use Rattle.model.specs.Objects.{Certificate}
use Rattle.wire_theory.specs.Bytes.{Bytes}
use Rattle.wire_theory.specs.Messages.{SignedSct, SignedList, Settings}
use Rattle.wire_theory.specs.Messages.Message.{certificate, sct, list, order, challenge, published, submit, revoke, present, accepted}
use Rattle.parties.specs.Coding.{Coding, same_bytes, leaf_of, leaves_of, root_of, node_of}
use Rattle.parties.specs.Steps.{Step, Fault, first_fault, unless_so, unless, is_some}
use Rattle.parties.specs.Authority.{Account, AuthorityView, next_serial, account_of, certificate_for, serials_at, list_of, on_published_to, on_get_list, revoking, revokes, on_revoke_of}
use Rattle.parties.specs.Log.{LogView, is_merged, is_known, is_full, promise_of, leaves_in, head_of}
use Rattle.parties.specs.Monitor.{Seen, MonitorView, tick_of, leads_to_both, goes_on, digests_with, looked_by, on_fetched}
use Rattle.parties.specs.RelyingParty.{RelyingView, is_older, has_serial, is_for, faults_of_presented, accepts_by}
use Rattle.parties.specs.Handling.{to_authority, to_log, to_relying}
use Rattle.parties.specs.RelyingInvariants.{PromiseFor, Acceptable}
use Rattle.parties.specs.Granting.{InRange, shown_since, GrantsWhatIsDue}
use Rattle.parties.proofs.Compared.{same_from, has_from}

-- no fault, one after the other

none_left : first_fault [] ≡ None
unfolding first_fault
none_left = refl

no_fault_here : (f : Fault) (fs : List Fault) → f.so ≡ false → first_fault fs ≡ None → first_fault (f ∷ fs) ≡ None
unfolding first_fault
no_fault_here f fs e rest = cond-false f.so (Some f.number) (first_fault fs) e ∙ rest

not_refused : {V : Type 0} (fs : List Fault) (v : V) (step : Step V) → first_fault fs ≡ None → unless fs v step ≡ step
not_refused fs v step e = ap (λ o. unless_so o v step) e

same_bytes_lem : (a b : Bytes) → a ≡ b → not (same_bytes a b) ≡ false
same_bytes_lem a b e = not_from_true _ (same_from a b e)

no_serial_there : (i : ℕ) (js : List ℕ) → ¬ (i ∈ js) → has_serial i js ≡ false
unfolding has_serial
no_serial_there i [] n = refl
no_serial_there i (j ∷ js) n = or_from _ _ (ne_eqb i j (λ e. n (Memᴰ.head e))) (no_serial_there i js (λ m. n (Memᴰ.tail m)))

leaves_dropped : (K : Coding) (m : ℕ) (cs : List Certificate) → leaves_of K (drop m cs) ≡ drop m (leaves_of K cs)
leaves_dropped K zero cs = refl
leaves_dropped K (suc m) [] = refl
leaves_dropped K (suc m) (c ∷ cs) = leaves_dropped K m cs

-- the authority

module _ (K : Coding) (s : Settings) where
  list_shown : (v : AuthorityView) → InRange v.now → (on_get_list K s v).answer ≡ list (list_of K s v)
  list_shown v small = ap (λ (x : Step AuthorityView). x.answer) (not_refused _ v _ (no_fault_here _ _ (lt-leb _ _ small) none_left))

  is_ordered : (v : AuthorityView) (found : Option Bytes) (name key : Bytes) → 16 ≤ length v.supply → InRange (next_serial v) →
      (to_authority K s found (order name key) v).answer ≡ challenge (next_serial v) (take 16 v.supply)
  is_ordered v found name key enough small =
      ap (λ (x : Step AuthorityView). x.answer) (not_refused _ v _ (no_fault_here _ _ (le-ltb _ _ enough) (no_fault_here _ _ (lt-leb _ _ small) none_left)))

  is_issued : (v : AuthorityView) (serial : ℕ) (a : Account) → account_of serial v.accounts ≡ Some a → a.issued ≡ false → a.revoked ≡ None → InRange (v.now + s.lifetime) →
      (to_authority K s (Some (K.hash (K.response_text serial a.nonce a.key))) (published serial) v).answer ≡ certificate (certificate_for K v.number serial (v.now + s.lifetime) a)
  is_issued v serial a drawn unissued unrevoked small = let found : Option Bytes = Some (K.hash (K.response_text serial a.nonce a.key)) in
      ap (λ o. (on_published_to K s serial found v o).answer) drawn ∙
      ap (λ (x : Step AuthorityView). x.answer)
      (not_refused _ v _ (no_fault_here _ _ unissued (no_fault_here _ _ (same_bytes_lem _ _ refl) (no_fault_here _ _ (ap is_some unrevoked) (no_fault_here _ _ (lt-leb _ _ small) none_left)))))

  is_revoked : (v : AuthorityView) (found : Option Bytes) (serial : ℕ) (a : Account) → account_of serial v.accounts ≡ Some a → a.issued ≡ true → a.revoked ≡ None →
      length (serials_at s v) < 1024 → InRange v.now →
      (to_authority K s found (revoke serial (K.seal_revoke v.number serial a.key)) v).answer ≡ list (list_of K s (revoking serial a v))
  is_revoked v found serial a drawn issued unrevoked room small = let seal : Bytes = K.seal_revoke v.number serial a.key in
      ap (λ o. (on_revoke_of K s serial seal v o).answer) drawn ∙
      (ap (λ (x : Step AuthorityView). x.answer) (not_refused _ v (revokes K s serial a v) (no_fault_here _ _ (not_from_true _ issued) (no_fault_here _ _ (same_bytes_lem _ _ refl) none_left))) ∙
      (ap (λ (x : Step AuthorityView). x.answer) (cond-false (is_some a.revoked) _ _ (ap is_some unrevoked)) ∙
      (ap (λ (x : Step AuthorityView). x.answer) (not_refused _ v (on_get_list K s (revoking serial a v)) (no_fault_here _ _ (lt-leb _ _ room) (no_fault_here _ _ (lt-leb _ _ small) none_left))) ∙
      list_shown (revoking serial a v) small)))

  -- the log

  has_room : (v : LogView) (c : Certificate) → (length v.merged + length v.pending < 65536) ⊎ ((leaf_of K c ∈ leaves_of K v.merged) ⊎ (leaf_of K c ∈ leaves_of K v.pending)) →
      (is_full v && not (is_known K c v)) ≡ false
  has_room v c (inl few) = and_left _ _ (lt-leb _ _ few)
  has_room v c (inr (inl m)) = and_right (is_full v) _ (not_from_true _ (or_left _ _ (has_from _ _ m)))
  has_room v c (inr (inr p)) = and_right (is_full v) _ (not_from_true _ (or_right (is_merged K c v) _ (has_from _ _ p)))

  is_promised : (v : LogView) (c : Certificate) → K.knows_authority c.issuer ≡ true → c.seal ≡ K.seal_certificate c →
      (length v.merged + length v.pending < 65536) ⊎ ((leaf_of K c ∈ leaves_of K v.merged) ⊎ (leaf_of K c ∈ leaves_of K v.pending)) →
      InRange c.serial → InRange c.expiry → InRange v.now → (to_log K (submit c) v).answer ≡ sct (promise_of K c v)
  is_promised v c known signed room serial expiry now = ap (λ (x : Step LogView). x.answer) (not_refused _ v _
      (no_fault_here _ _ (not_from_true _ known) (no_fault_here _ _ (same_bytes_lem _ _ signed) (no_fault_here _ _ (has_room v c room)
      (no_fault_here _ _ (or_from _ _ (lt-leb _ _ serial) (or_from _ _ (lt-leb _ _ expiry) (lt-leb _ _ now))) none_left)))))

  -- the monitor

  same_row : (v : LogView) (x : Seen) (m : ℕ) → x.digests ≡ take m (leaves_in K v) → digests_with K x (drop m v.merged) ≡ leaves_in K v
  same_row v x m e = ap (λ (ds : List Bytes). ds ++ leaves_of K (drop m v.merged)) e ∙
      (ap (λ (ds : List Bytes). take m (leaves_in K v) ++ ds) (leaves_dropped K m v.merged) ∙ take-append-drop m (leaves_in K v))

  goes_on_lem : (v : LogView) (x : Seen) (m : ℕ) → m ≤ length v.merged → x.digests ≡ take m (leaves_in K v) → goes_on K x (shown_since K m v) ≡ true
  goes_on_lem v x m few e =
      let many : length x.digests ≡ m = ap (λ (ds : List Bytes). length ds) e ∙ (length-take m (leaves_in K v) ∙ min-eq_left (subst (λ (n : ℕ). m ≤ n) (sym (length-map v.merged (leaf_of K))) few)) in
      by (cases_eq m 0) many
    where
      proof : List Bytes
      proof = consistency (over_leaves K.hash) m (leaves_in K v)

      by : (m ≡ 0) ⊎ (¬ (m ≡ 0)) → length x.digests ≡ m → goes_on K x (shown_since K m v) ≡ true
      by (inl none) many = or_left _ _ (eq-eqb _ _ (many ∙ none))
      by (inr some) many =
          let count : length (leaves_in K v) ≡ length v.merged = length-map v.merged (leaf_of K) in
          let leads : roots_from_consistency (node_of K) m (length (leaves_in K v)) true (root_of K (take m (leaves_in K v))) proof ≡ Some (record { earlier = root_of K (take m (leaves_in K v)); later = root_of K (leaves_in K v) }) =
          consistency-there (over_leaves K.hash) m (leaves_in K v) (omega (arith, λ (z : m ≡ 0). some z)) (omega (arith, few, count)) in
          let here : roots_from_consistency (node_of K) (length x.digests) (length v.merged) true (root_of K x.digests) proof ≡ Some (record { earlier = root_of K x.digests; later = root_of K (leaves_in K v) }) =
          rw (many, e, ← count) leads in
          or_right (eqb (length x.digests) 0) _ (ap (leads_to_both (root_of K x.digests) (root_of K (leaves_in K v))) here ∙ and_from _ _ (same_from _ _ refl) (same_from _ _ refl))

  is_shown : (v : LogView) (w : MonitorView) (m : ℕ) → m ≤ length v.merged → (w.logs v.number).digests ≡ take m (leaves_in K v) → tick_of (w.logs v.number).head ≤ v.now →
      K.knows_log v.number ≡ true → (head_of K v).seal ≡ K.seal_head (head_of K v) → InRange v.now → (on_fetched K (shown_since K m v) w).fault ≡ None
  is_shown v w m few e later known signed small = let x : Seen = w.logs v.number in
      let row : digests_with K x (drop m v.merged) ≡ leaves_in K v = same_row v x m e in
      let fewer : length x.digests ≤ length v.merged = omega (arith, few, ap (λ (ds : List Bytes). length ds) e, length-take m (leaves_in K v), min-le_left m (length (leaves_in K v))) in
      ap (λ o. (looked_by K (shown_since K m v) w o).fault)
      (no_fault_here _ _ (not_from_true _ known) (no_fault_here _ _ (same_bytes_lem _ _ signed) (no_fault_here _ _ (le-ltb _ _ later) (no_fault_here _ _ (le-ltb _ _ fewer)
      (no_fault_here _ _ (not_from_true _ (goes_on_lem v x m few e))
      (no_fault_here _ _ (not_from_true _ (and_from _ _ (eq-eqb _ _ (ap (λ (ds : List Bytes). length ds) row ∙ length-map v.merged (leaf_of K))) (same_from _ _ (ap (root_of K) row))))
      (no_fault_here _ _ (lt-leb _ _ small) none_left)))))))

  -- the relying party

  not_older : (b : SignedList) (o : Option SignedList) → ((old : SignedList) → o ≡ Some old → old.at ≤ b.at) → is_older b o ≡ false
  not_older b None h = refl
  not_older b (Some old) h = le-ltb _ _ (h old refl)

  is_taken : (v : RelyingView) (b : SignedList) → K.knows_authority b.authority ≡ true → b.seal ≡ K.seal_list b → b.at ≤ v.now → v.now ≤ b.at + s.freshness →
      ((old : SignedList) → v.lists b.authority ≡ Some old → old.at ≤ b.at) → InRange b.at → (to_relying K s (list b) v).answer ≡ accepted
  is_taken v b known signed past fresh newer small = ap (λ (x : Step RelyingView). x.answer) (not_refused _ v _
      (no_fault_here _ _ (not_from_true _ known) (no_fault_here _ _ (same_bytes_lem _ _ signed) (no_fault_here _ _ (not_from_true _ (and_from _ _ (le-leb _ _ past) (le-leb _ _ fresh)))
      (no_fault_here _ _ (not_older b (v.lists b.authority) newer) (no_fault_here _ _ (lt-leb _ _ small) none_left))))))

  is_for_lem : (c : Certificate) (t : ℕ) (p : SignedSct) → PromiseFor K c t p → is_for K t c p ≡ true
  is_for_lem c t p h = and_from _ _ (same_from _ _ h.digest) (le-leb _ _ h.not_future)

  is_acceptable : (v : RelyingView) (c : Certificate) (p q : SignedSct) (b : SignedList) → v.lists c.issuer ≡ Some b → Acceptable K s c p q b v.now →
      (to_relying K s (present c p q) v).answer ≡ accepted
  is_acceptable v c p q b has x = ap (λ o. (unless (faults_of_presented K s v.now c p q o) v (accepts_by c p q v o)).answer) has ∙
      ap (λ (y : Step RelyingView). y.answer) (not_refused _ v _
      (no_fault_here _ _ (not_from_true _ (and_from _ _ x.known (and_from _ _ x.first.known x.second.known)))
      (no_fault_here _ _ (not_from_true _ (and_from _ _ (same_from _ _ x.signed) (and_from _ _ (same_from _ _ x.first.signed) (same_from _ _ x.second.signed))))
      (no_fault_here _ _ (not_from_true _ (and_from _ _ (is_for_lem c v.now p x.first) (and_from _ _ (is_for_lem c v.now q x.second) (not_from_false _ (ne_eqb _ _ x.two_logs)))))
      (no_fault_here _ _ (le-ltb _ _ x.not_expired)
      (no_fault_here _ _ (not_from_true _ (and_from _ _ (le-leb _ _ x.fresh.0) (le-leb _ _ x.fresh.1)))
      (no_fault_here _ _ (no_serial_there _ _ x.not_revoked)
      (no_fault_here _ _ (or_from _ _ (lt-leb _ _ x.in_range.0) (or_from _ _ (lt-leb _ _ x.in_range.1) (lt-leb _ _ x.in_range.2))) none_left))))))))

pub grants_what_is_due : GrantsWhatIsDue
grants_what_is_due K s = record {
  ordered = is_ordered K s;
  issued = is_issued K s;
  listed = λ v found. list_shown K s v;
  revoked = is_revoked K s;
  promised = is_promised K s;
  shown = is_shown K s;
  taken = is_taken K s;
  acceptable = is_acceptable K s;
}
