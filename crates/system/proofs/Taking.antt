-- A monitor takes every head that an honest log signs. Assumes nothing.
use Rattle.std.proofs.Common.{◌≡◌, ℕ, ◌^◌, ◌<◌, ◌≤◌, Bool, true, false, cond, eqb, List, [], ◌∷◌, ◌++◌, length, take, drop, Some, None, sym, refl, ap, ◌∙◌, subst, inl, inr, suc-le-suc, zero-le, arith}
use mathlib.Core.List.{map-append}
use lib.ListN.{length-map}
use Rattle.std.proofs.lemmas.Bool.{cases_lt, le-ltb, lt-leb, eq-eqb, and_from, or_right, or_left, not_from_true}
use Rattle.merkle_theory.specs.Bytes.{over_leaves}
use Rattle.merkle_theory.specs.Tree.{roots_from_consistency}
use Rattle.merkle_theory.proofs.There.{consistency-there}
use Rattle.model.specs.Objects.{Certificate}
use Rattle.model.specs.Rules.{Extends}
use Rattle.wire_theory.specs.Bytes.{Bytes}
use Rattle.wire_theory.specs.Messages.{SignedHead}
use Rattle.parties.specs.Coding.{leaf_of, leaves_of, root_of, node_of}
use Rattle.parties.specs.Steps.{Fault, first_fault}
use Rattle.parties.specs.Log.{LogView, head_of}
use Rattle.parties.specs.Evidence.{gives_root}
use Rattle.parties.specs.Monitor.{Seen, Fetched, digests_with, goes_on, leads_to_both, faults_of, tick_of}
use Rattle.parties.proofs.Compared.{same_from}
use Rattle.system.specs.Setup.{Setup, Sound}
use Rattle.system.specs.Runs.{State}
use Rattle.system.specs.Stands.{head_of as world_head, Reaches}
use Rattle.system.specs.Assured.{OfEveryRun, HeadIsTaken, answers_of}
use Rattle.system.proofs.Heads.{may_head}
use Rattle.system.proofs.Assuring.{of_world, safe}

-- a list of faults of which none is so
none_so : (f : Fault) (fs : List Fault) → f.so ≡ false → first_fault fs ≡ None → first_fault (f ∷ fs) ≡ None
unfolding first_fault
none_so f fs e r = ap (λ (b : Bool). cond b (Some f.number) (first_fault fs)) e ∙ r

no_faults : first_fault [] ≡ None
unfolding first_fault
no_faults = refl

take-front : {A : Type 0} (xs ys : List A) → take (length xs) (xs ++ ys) ≡ xs
take-front [] ys = refl
take-front (x ∷ xs) ys = ap (λ zs. x ∷ zs) (take-front xs ys)

drop-front : {A : Type 0} (xs ys : List A) → drop (length xs) (xs ++ ys) ≡ ys
drop-front [] ys = refl
drop-front (x ∷ xs) ys = drop-front xs ys

longer : {A : Type 0} (xs ys : List A) → length xs ≤ length (xs ++ ys)
longer [] ys = zero-le
longer (x ∷ xs) ys = suc-le-suc (longer xs ys)

module _ (S : Setup) (sound : Sound S) (s : State) (r : Reaches S s) (l n : ℕ) (honest : S.honest_log l ≡ true) (awake : (s.logs l).now ≡ s.clock) where
  abbrev x : Seen
  x = (s.monitors n).logs l

  abbrev v : LogView
  v = s.logs l

  abbrev old : List Certificate
  old = (r.world.seen n l).entries

  number : v.number ≡ l
  number = (r.stands.logs l honest).number

  -- the model's monitor takes it, since it goes on from what the monitor has
  extends : Extends (r.world.seen n l) (world_head (head_of S.coding v) v.merged)
  extends = subst (λ (i : ℕ). Extends (r.world.seen n i) (world_head (head_of S.coding v) v.merged)) number
      ((safe S sound s r).logging.head_is_taken _ (ap S.honest_log number ∙ honest) (may_head S sound s l honest awake r.run r.stands) n).extends

  merged : v.merged ≡ old ++ extends.begins.more
  merged = extends.begins.is

  seen_digests : x.digests ≡ leaves_of S.coding old
  seen_digests = (r.stands.seen n l).digests

  as_many : length x.digests ≡ length old
  as_many = ap length seen_digests ∙ length-map old _

  new_entries : drop (length x.digests) v.merged ≡ extends.begins.more
  new_entries = ap (λ i. drop i v.merged) as_many ∙ (ap (drop (length old)) merged ∙ drop-front old extends.begins.more)

  abbrev f : Fetched
  f = answers_of S s l n (drop (length x.digests) v.merged)

  all_digests : digests_with S.coding x f.new ≡ leaves_of S.coding v.merged
  all_digests = ap (λ ds. ds ++ leaves_of S.coding f.new) seen_digests ∙ (ap (λ cs. leaves_of S.coding old ++ leaves_of S.coding cs) new_entries
      ∙ (sym (map-append (leaf_of S.coding) old extends.begins.more) ∙ ap (leaves_of S.coding) (sym merged)))

  front : take (length x.digests) (leaves_of S.coding v.merged) ≡ x.digests
  front = ap (take (length x.digests)) (sym all_digests) ∙ take-front x.digests (leaves_of S.coding f.new)

  fewer : length x.digests ≤ length (leaves_of S.coding v.merged)
  fewer = subst (λ (ds : List Bytes). length x.digests ≤ length ds) all_digests (longer x.digests (leaves_of S.coding f.new))

  leads : 0 < length x.digests → goes_on S.coding x f ≡ true
  leads some = or_right (eqb (length x.digests) 0) _ (ap (leads_to_both (root_of S.coding x.digests) f.head.root) found
      ∙ and_from _ _ (same_from _ _ refl) (same_from _ _ refl))
    where
      found : roots_from_consistency (node_of S.coding) (length x.digests) f.head.count true (root_of S.coding x.digests) f.proof ≡
          Some (record { earlier = root_of S.coding x.digests; later = f.head.root })
      found = subst (λ (ds : List Bytes). roots_from_consistency (node_of S.coding) (length x.digests) f.head.count true (root_of S.coding ds) f.proof ≡
          Some (record { earlier = root_of S.coding ds; later = f.head.root })) front
          (subst (λ (c : ℕ). roots_from_consistency (node_of S.coding) (length x.digests) c true (root_of S.coding (take (length x.digests) (leaves_of S.coding v.merged))) f.proof ≡
          Some (record { earlier = root_of S.coding (take (length x.digests) (leaves_of S.coding v.merged)); later = f.head.root })) (length-map v.merged _)
          (consistency-there (over_leaves S.coding.hash) (length x.digests) (leaves_of S.coding v.merged) some fewer))

  consistent : goes_on S.coding x f ≡ true
  consistent = elim (cases_lt 0 (length x.digests)) [ inl some ↦ leads some | inr none ↦ or_left _ _ (eq-eqb (length x.digests) 0 (omega arith)) ]

  roots : gives_root S.coding (digests_with S.coding x f.new) f.head ≡ true
  roots = and_from _ _ (eq-eqb _ _ (ap length all_digests ∙ length-map v.merged _)) (same_from _ _ (ap (root_of S.coding) all_digests))

  not_older : tick_of x.head ≤ v.now
  not_older = subst (λ (t : ℕ). t ≤ v.now) (r.stands.seen n l).at extends.later

  no_fault : S.coding.knows_log l ≡ true → s.clock < 2 ^ 63 →
      ((h : SignedHead) (z : Bytes) → S.coding.seal_head h ≡ S.coding.seal_head (record { log = h.log; at = h.at; count = h.count; root = h.root; seal = z })) →
      first_fault (faults_of S.coding x f) ≡ None
  no_fault known small blind =
      none_so _ _ (not_from_true _ (ap S.coding.knows_log number ∙ known)) (none_so _ _ (not_from_true _ (same_from _ _ (blind _ _)))
      (none_so _ _ (le-ltb _ _ not_older) (none_so _ _ (le-ltb _ _ (subst (λ (i : ℕ). length x.digests ≤ i) (length-map v.merged _) fewer)) (none_so _ _ (not_from_true _ consistent)
      (none_so _ _ (not_from_true _ roots) (none_so _ _ (lt-leb _ _ (omega (arith, awake, small))) no_faults))))))

pub head_is_taken : OfEveryRun HeadIsTaken
head_is_taken = of_world (λ S sound s r l n honest known awake small blind. no_fault S sound s r l n honest awake known small blind)
