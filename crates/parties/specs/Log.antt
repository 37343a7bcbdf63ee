-- A log: promises, merging, heads, proofs and entries. Assumes nothing.
use Rattle.std.specs.Prelude.{ℕ, ◌+◌, ◌-◌, Bool, cond, not, ◌&&◌, ◌||◌, List, [], ◌∷◌, ◌++◌, length, take, drop, ◌==◌, nat_le, nat_lt}
use Rattle.merkle_theory.specs.Bytes.{over_leaves}
use Rattle.merkle_theory.specs.Tree.{path, consistency}
use Rattle.model.specs.Objects.{Certificate}
use Rattle.wire_theory.specs.Bytes.{Bytes}
use Rattle.wire_theory.specs.Messages.{Message, SignedSct, SignedHead}
use Rattle.wire_theory.specs.Messages.Message.{sct, head, inclusion, entries}
use Rattle.parties.specs.Coding.{Coding, has, leaf_of, leaves_of, root_of, right_certificate}
use Rattle.parties.specs.Steps.{Step, Tick, answers, ◌⇒◌, unless, too_large}

-- entries: oldest first. pending: promised and not merged, one for each promise
pub record LogView : Type 0 where
  pub number : ℕ
  pub now : ℕ
  pub merged : List Certificate
  pub pending : List Certificate

abbrev pub new_log : ℕ → LogView
new_log number = record { number = number; now = 0; merged = []; pending = [] }

-- Promises

abbrev pub is_merged : Coding → Certificate → LogView → Bool
is_merged K c v = has (leaf_of K c) (leaves_of K v.merged)

abbrev pub is_known : Coding → Certificate → LogView → Bool
is_known K c v = is_merged K c v || has (leaf_of K c) (leaves_of K v.pending)

abbrev pub is_full : LogView → Bool
is_full v = nat_le 65536 (length v.merged + length v.pending)

abbrev pub promise_of : Coding → Certificate → LogView → SignedSct
promise_of K c v =
    let p : SignedSct = record { log = v.number; digest = leaf_of K c; at = v.now; seal = [] } in
    record { log = v.number; digest = leaf_of K c; at = v.now; seal = K.seal_sct p }

-- what is merged already is owed no more
abbrev pub promised : Coding → Certificate → LogView → LogView
promised K c v = cond (is_merged K c v) v (record { number = v.number; now = v.now; merged = v.merged; pending = v.pending ++ (c ∷ []) })

abbrev pub on_submit : Coding → Certificate → LogView → Step LogView
on_submit K c v =
    unless (not (K.knows_authority c.issuer) ⇒ 2 ∷ (not (right_certificate K c) ⇒ 3 ∷ ((is_full v && not (is_known K c v)) ⇒ 12 ∷
    ((too_large c.serial || (too_large c.expiry || too_large v.now)) ⇒ 14 ∷ [])))) v
    (answers (promised K c v) (sct (promise_of K c v)))

-- Merging: on each tick all that is pending, in the order of promises, each once

unfoldable pub merged_with : Coding → List Certificate → List Certificate → List Certificate
merged_with K es [] = es
merged_with K es (c ∷ cs) = merged_with K (cond (has (leaf_of K c) (leaves_of K es)) es (es ++ (c ∷ []))) cs

abbrev pub merges : Coding → ℕ → LogView → LogView
merges K t v = record { number = v.number; now = t; merged = merged_with K v.merged v.pending; pending = [] }

abbrev pub on_tick : Coding → ℕ → LogView → Tick LogView
on_tick K t v = record { view = cond (nat_lt v.now t) (merges K t v) v; sends = [] }

-- Heads, proofs and entries

abbrev pub leaves_in : Coding → LogView → List Bytes
leaves_in K v = leaves_of K v.merged

abbrev pub head_of : Coding → LogView → SignedHead
head_of K v =
    let h : SignedHead = record { log = v.number; at = v.now; count = length v.merged; root = root_of K (leaves_in K v); seal = [] } in
    record { log = v.number; at = v.now; count = length v.merged; root = root_of K (leaves_in K v); seal = K.seal_head h }

abbrev pub on_get_head : Coding → LogView → Step LogView
on_get_head K v = unless (too_large v.now ⇒ 14 ∷ []) v (answers v (head (head_of K v)))

-- the path of a place among the first so many
abbrev pub on_get_inclusion : Coding → ℕ → ℕ → LogView → Step LogView
on_get_inclusion K place count v = unless ((nat_le count place || nat_lt (length v.merged) count) ⇒ 2 ∷ []) v
    (answers v (inclusion (path (over_leaves K.hash) place (take count (leaves_in K v)))))

abbrev pub on_get_consistency : Coding → ℕ → ℕ → LogView → Step LogView
on_get_consistency K from to v = unless ((from == 0 || (nat_lt to from || nat_lt (length v.merged) to)) ⇒ 2 ∷ []) v
    (answers v (Message.consistency (consistency (over_leaves K.hash) from (take to (leaves_in K v)))))

abbrev pub on_get_entries : Coding → ℕ → ℕ → LogView → Step LogView
on_get_entries K from to v = unless (nat_lt 64 (to - from) ⇒ 1 ∷ ((nat_lt to from || nat_lt (length v.merged) to) ⇒ 2 ∷ [])) v (answers v (entries (take (to - from) (drop from v.merged))))
