-- What a log answers when it is asked for a head, a proof or entries is so. Assumes nothing.
use Rattle.std.specs.Prelude.{◌≡◌, ℕ, ◌+◌, ◌-◌, ◌<◌, ◌≤◌, List, length, take, drop}
use Rattle.merkle_theory.specs.Claims.{Stands}
use Rattle.merkle_theory.specs.Tree.{PathLeads, ConsistencyLeads}
use Rattle.model.specs.Objects.{Certificate}
use Rattle.wire_theory.specs.Bytes.{Bytes}
use Rattle.wire_theory.specs.Messages.{SignedHead}
use Rattle.wire_theory.specs.Messages.Message.{head, get_head, get_inclusion, get_consistency, get_entries, inclusion, consistency, entries}
use Rattle.parties.specs.Coding.{Coding, root_of, node_of}
use Rattle.parties.specs.Log.{LogView, leaves_in, head_of}
use Rattle.parties.specs.Handling.{to_log}

pub record LogAnswers (K : Coding) (v : LogView) : Type 0 where
  pub headed : (h : SignedHead) → (to_log K get_head v).answer ≡ head h → h ≡ head_of K v
  -- a path leads from what stands at the place to the root of the first so many
  pub included : (place count : ℕ) (way : List Bytes) → (to_log K (get_inclusion place count) v).answer ≡ inclusion way →
      (place < count) × (count ≤ length v.merged) ×
      ((d : Bytes) → Stands (leaves_in K v) place d → PathLeads (node_of K) count place d way (root_of K (take count (leaves_in K v))))
  -- a consistency proof leads to both roots
  pub consistent : (from to : ℕ) (proof : List Bytes) → (to_log K (get_consistency from to) v).answer ≡ consistency proof →
      (0 < from) × (from ≤ to) × (to ≤ length v.merged) × ConsistencyLeads (node_of K) from to (root_of K (take from (leaves_in K v))) (root_of K (take to (leaves_in K v))) proof
  pub shown : (from to : ℕ) (cs : List Certificate) → (to_log K (get_entries from to) v).answer ≡ entries cs →
      (from ≤ to) × (to ≤ from + 64) × (to ≤ length v.merged) × (cs ≡ take (to - from) (drop from v.merged))

abbrev pub LogsAnswerRight : Type 0
LogsAnswerRight = (K : Coding) (v : LogView) → LogAnswers K v
