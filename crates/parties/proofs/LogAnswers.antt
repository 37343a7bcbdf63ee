-- A log's heads, proofs and entries are right. Assumes nothing.
use Rattle.std.proofs.Common.{◌≡◌, ℕ, zero, suc, ◌+◌, ◌-◌, ◌<◌, ◌≤◌, ◌||◌, eqb, ltb, List, [], ◌∷◌, length, take, drop, None, sym, refl, ap, ◌∙◌, subst, arith, length-take}
use native.Mathlib.Nat.{min-eq_left}
use lib.ListN.{length-map}
use Rattle.std.proofs.lemmas.Bool.{or_parts, eqb-false, ltb-false, leb-false}
use Rattle.merkle_theory.specs.Bytes.{over_leaves}
use Rattle.merkle_theory.specs.Claims.{Stands}
use Rattle.merkle_theory.specs.Tree.{path, consistency as proof_from, PathLeads, ConsistencyLeads}
use Rattle.merkle_theory.proofs.There.{path-there, consistency-there}
use Rattle.model.specs.Objects.{Certificate}
use Rattle.wire_theory.specs.Bytes.{Bytes}
use Rattle.wire_theory.specs.Messages.{Message, SignedHead}
use Rattle.wire_theory.specs.Messages.Message.{head, get_inclusion, get_consistency, get_entries, inclusion, consistency, entries}
use Rattle.parties.specs.Coding.{Coding, leaf_of, root_of, node_of}
use Rattle.parties.specs.Steps.{Step, Fault, first_fault, unless}
use Rattle.parties.specs.Log.{LogView, leaves_in, head_of}
use Rattle.parties.specs.Handling.{kind, to_log}
use Rattle.parties.specs.LogAnswers.{LogsAnswerRight}
use Rattle.parties.proofs.Faults.{unless_cases, first_fault_none}

-- an answer that is no refusal is that of the step
granted : {V : Type 0} (fs : List Fault) (v : V) (step : Step V) (m : Message) → ¬ (kind m ≡ 31) → (unless fs v step).answer ≡ m → (first_fault fs ≡ None) × (step.answer ≡ m)
granted fs v step m other = unless_cases fs v step (λ x. x.answer ≡ m → (first_fault fs ≡ None) × (step.answer ≡ m)) (λ n e q. absurd (other (sym (ap kind q)))) (λ e q. (e, q))

same_head : (h g : SignedHead) → head g ≡ head h → h ≡ g
same_head h g e = cc

same_way : (x y : List Bytes) → inclusion x ≡ inclusion y → x ≡ y
same_way x y e = cc

same_proof : (x y : List Bytes) → consistency x ≡ consistency y → x ≡ y
same_proof x y e = cc

same_entries : (x y : List Certificate) → entries x ≡ entries y → y ≡ x
same_entries x y e = cc

-- the first so many

stands_in_first : (xs : List Bytes) (n m : ℕ) (x : Bytes) → m < n → Stands xs m x → Stands (take n xs) m x
stands_in_first [] n m x l (w, g) = absurd (omega (arith, w))
stands_in_first (y ∷ ys) zero m x l h = absurd (omega (arith, l))
stands_in_first (y ∷ ys) (suc n) zero x l (w, g) = (omega arith, g)
stands_in_first (y ∷ ys) (suc n) (suc m) x l (w, g) = let (w', g') = stands_in_first ys n m x (omega (arith, l)) (omega (arith, w), g) in (omega (arith, w'), g')

first_of_first : (xs : List Bytes) (n m : ℕ) → m ≤ n → take m (take n xs) ≡ take m xs
first_of_first xs n zero l = refl
first_of_first xs zero (suc m) l = absurd (omega (arith, l))
first_of_first [] (suc n) (suc m) l = refl
first_of_first (x ∷ xs) (suc n) (suc m) l = ap {B = List Bytes} (λ ys. x ∷ ys) (first_of_first xs n m (omega (arith, l)))

module _ (K : Coding) (v : LogView) where
  as_many : (n : ℕ) → n ≤ length v.merged → length (take n (leaves_in K v)) ≡ n
  as_many n l = length-take n (leaves_in K v) ∙ min-eq_left (subst (λ (k : ℕ). n ≤ k) (sym (length-map v.merged (leaf_of K))) l)

  is_included : (place count : ℕ) (way : List Bytes) → (to_log K (get_inclusion place count) v).answer ≡ inclusion way →
      (place < count) × (count ≤ length v.merged) ×
      ((d : Bytes) → Stands (leaves_in K v) place d → PathLeads (node_of K) count place d way (root_of K (take count (leaves_in K v))))
  is_included place count way e =
      let (none, said) = granted _ v _ (inclusion way) (λ z. omega (arith, z)) e in
      let (inside, enough) = or_parts _ _ (first_fault_none _ _ none).0 in
      let below : place < count = leb-false count place inside in
      let few : count ≤ length v.merged = ltb-false _ _ enough in
      let ds : List Bytes = take count (leaves_in K v) in (
        below,
        few,
        λ d h. subst (λ (w : List Bytes). PathLeads (node_of K) count place d w (root_of K ds)) (same_way _ _ said)
            (subst (λ (n : ℕ). PathLeads (node_of K) n place d (path (over_leaves K.hash) place ds) (root_of K ds)) (as_many count few)
            (path-there (over_leaves K.hash) ds place d (stands_in_first (leaves_in K v) count place d below h))),
      )

  is_consistent : (from to : ℕ) (proof : List Bytes) → (to_log K (get_consistency from to) v).answer ≡ consistency proof →
      (0 < from) × (from ≤ to) × (to ≤ length v.merged) × ConsistencyLeads (node_of K) from to (root_of K (take from (leaves_in K v))) (root_of K (take to (leaves_in K v))) proof
  is_consistent from to proof e =
      let (none, said) = granted _ v _ (consistency proof) (λ z. omega (arith, z)) e in
      let (nonzero, rest) = or_parts (eqb from 0) (ltb to from || ltb (length v.merged) to) (first_fault_none _ _ none).0 in
      let (inside, enough) = or_parts (ltb to from) (ltb (length v.merged) to) rest in
      let some : ¬ (from ≡ 0) = eqb-false _ _ nonzero in
      let positive : 0 < from = omega (arith, λ (z : from ≡ 0). some z) in
      let below : from ≤ to = ltb-false _ _ inside in
      let few : to ≤ length v.merged = ltb-false _ _ enough in
      let ds : List Bytes = take to (leaves_in K v) in
      let leads : ConsistencyLeads (node_of K) from (length ds) (root_of K (take from ds)) (root_of K ds) (proof_from (over_leaves K.hash) from ds) =
      consistency-there (over_leaves K.hash) from ds positive (omega (arith, below, as_many to few)) in (
        positive,
        below,
        few,
        subst (λ (p : List Bytes). ConsistencyLeads (node_of K) from to (root_of K (take from (leaves_in K v))) (root_of K ds) p) (same_proof _ _ said)
            (subst (λ (row : List Bytes). ConsistencyLeads (node_of K) from to (root_of K row) (root_of K ds) (proof_from (over_leaves K.hash) from ds)) (first_of_first (leaves_in K v) to from below)
            (subst (λ (n : ℕ). ConsistencyLeads (node_of K) from n (root_of K (take from ds)) (root_of K ds) (proof_from (over_leaves K.hash) from ds)) (as_many to few) leads)),
      )

  is_shown : (from to : ℕ) (cs : List Certificate) → (to_log K (get_entries from to) v).answer ≡ entries cs →
      (from ≤ to) × (to ≤ from + 64) × (to ≤ length v.merged) × (cs ≡ take (to - from) (drop from v.merged))
  is_shown from to cs e =
      let (none, said) = granted _ v _ (entries cs) (λ z. omega (arith, z)) e in
      let (many, none2) = first_fault_none _ _ none in
      let (inside, enough) = or_parts _ _ (first_fault_none _ _ none2).0 in
      let few : to - from ≤ 64 = ltb-false 64 (to - from) many in
      let below : from ≤ to = ltb-false to from inside in
      (below, omega (arith, few, below), ltb-false _ _ enough, same_entries _ _ said)

pub logs_answer_right : LogsAnswerRight
logs_answer_right K v = record {
  headed = λ h e. same_head h (head_of K v) (granted _ v _ (head h) (λ z. omega (arith, z)) e).1;
  included = is_included K v;
  consistent = is_consistent K v;
  shown = is_shown K v;
}
