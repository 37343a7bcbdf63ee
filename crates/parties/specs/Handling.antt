-- What each party does with any message whatever, in any view; and that what it refuses changes nothing. Assumes nothing.
use Rattle.std.specs.Prelude.{◌≡◌, ℕ, ◌<◌, ◌≤◌, List, [], ◌∷◌, Some, Option}
use Rattle.model.specs.Lists.{◌∈◌}
use Rattle.wire_theory.specs.Bytes.{Bytes}
use Rattle.wire_theory.specs.Messages.{Message, Settings}
use Rattle.wire_theory.specs.Messages.Message.{certificate, sct, head, list, order, challenge, published, submit, get_head, get_inclusion, get_consistency, get_entries, revoke, get_list, bring, present, inclusion, consistency, entries, answer, accepted, refused}
use Rattle.parties.specs.Coding.{Coding}
use Rattle.parties.specs.Steps.{Step, answers}
use Rattle.parties.specs.Authority.{AuthorityView, on_order, on_published, on_revoke, on_get_list, withdraw, on_tick as authority_tick}
use Rattle.parties.specs.Log.{LogView, on_submit, on_get_head, on_get_inclusion, on_get_consistency, on_get_entries, on_tick as log_tick}
use Rattle.parties.specs.Monitor.{MonitorView, Fetched, Brought, says, on_bring, on_fetched, on_tick as monitor_tick}
use Rattle.parties.specs.RelyingParty.{RelyingView, on_list, on_present, on_tick as relying_tick}

-- a message's kind, the first of its bytes
abbrev pub kind : Message → ℕ
kind (certificate c) = 1
kind (sct p) = 2
kind (head h) = 3
kind (list b) = 4
kind (order name key) = 5
kind (challenge serial nonce) = 6
kind (published serial) = 7
kind (submit c) = 8
kind get_head = 9
kind (get_inclusion place count) = 10
kind (get_consistency from to) = 11
kind (get_entries from to) = 12
kind (revoke serial seal) = 13
kind get_list = 14
kind (bring c p) = 15
kind (present c p q) = 16
kind (inclusion path) = 26
kind (consistency path) = 27
kind (entries cs) = 28
kind (answer a) = 29
kind accepted = 30
kind (refused cause) = 31

-- found: what stands at the name of the order, if published tells the authority to look there
abbrev pub to_authority : Coding → Settings → Option Bytes → Message → AuthorityView → Step AuthorityView
to_authority K s found (certificate c) v = answers v (refused 1)
to_authority K s found (sct p) v = answers v (refused 1)
to_authority K s found (head h) v = answers v (refused 1)
to_authority K s found (list b) v = answers v (refused 1)
to_authority K s found (order name key) v = on_order name key v
to_authority K s found (challenge serial nonce) v = answers v (refused 1)
to_authority K s found (published serial) v = on_published K s serial found v
to_authority K s found (submit c) v = answers v (refused 1)
to_authority K s found get_head v = answers v (refused 1)
to_authority K s found (get_inclusion place count) v = answers v (refused 1)
to_authority K s found (get_consistency from to) v = answers v (refused 1)
to_authority K s found (get_entries from to) v = answers v (refused 1)
to_authority K s found (revoke serial seal) v = on_revoke K s serial seal v
to_authority K s found get_list v = on_get_list K s v
to_authority K s found (bring c p) v = answers v (refused 1)
to_authority K s found (present c p q) v = answers v (refused 1)
to_authority K s found (inclusion path) v = answers v (refused 1)
to_authority K s found (consistency path) v = answers v (refused 1)
to_authority K s found (entries cs) v = answers v (refused 1)
to_authority K s found (answer a) v = answers v (refused 1)
to_authority K s found accepted v = answers v (refused 1)
to_authority K s found (refused cause) v = answers v (refused 1)

abbrev pub to_log : Coding → Message → LogView → Step LogView
to_log K (certificate c) v = answers v (refused 1)
to_log K (sct p) v = answers v (refused 1)
to_log K (head h) v = answers v (refused 1)
to_log K (list b) v = answers v (refused 1)
to_log K (order name key) v = answers v (refused 1)
to_log K (challenge serial nonce) v = answers v (refused 1)
to_log K (published serial) v = answers v (refused 1)
to_log K (submit c) v = on_submit K c v
to_log K get_head v = on_get_head K v
to_log K (get_inclusion place count) v = on_get_inclusion K place count v
to_log K (get_consistency from to) v = on_get_consistency K from to v
to_log K (get_entries from to) v = on_get_entries K from to v
to_log K (revoke serial seal) v = answers v (refused 1)
to_log K get_list v = answers v (refused 1)
to_log K (bring c p) v = answers v (refused 1)
to_log K (present c p q) v = answers v (refused 1)
to_log K (inclusion path) v = answers v (refused 1)
to_log K (consistency path) v = answers v (refused 1)
to_log K (entries cs) v = answers v (refused 1)
to_log K (answer a) v = answers v (refused 1)
to_log K accepted v = answers v (refused 1)
to_log K (refused cause) v = answers v (refused 1)

-- came: what the log answers, if the monitor asks it
abbrev pub to_monitor : Coding → Settings → Option Fetched → Message → MonitorView → Brought
to_monitor K s came (certificate c) v = says v [] (refused 1)
to_monitor K s came (sct p) v = says v [] (refused 1)
to_monitor K s came (head h) v = says v [] (refused 1)
to_monitor K s came (list b) v = says v [] (refused 1)
to_monitor K s came (order name key) v = says v [] (refused 1)
to_monitor K s came (challenge serial nonce) v = says v [] (refused 1)
to_monitor K s came (published serial) v = says v [] (refused 1)
to_monitor K s came (submit c) v = says v [] (refused 1)
to_monitor K s came get_head v = says v [] (refused 1)
to_monitor K s came (get_inclusion place count) v = says v [] (refused 1)
to_monitor K s came (get_consistency from to) v = says v [] (refused 1)
to_monitor K s came (get_entries from to) v = says v [] (refused 1)
to_monitor K s came (revoke serial seal) v = says v [] (refused 1)
to_monitor K s came get_list v = says v [] (refused 1)
to_monitor K s came (bring c p) v = on_bring K s c p came v
to_monitor K s came (present c p q) v = says v [] (refused 1)
to_monitor K s came (inclusion path) v = says v [] (refused 1)
to_monitor K s came (consistency path) v = says v [] (refused 1)
to_monitor K s came (entries cs) v = says v [] (refused 1)
to_monitor K s came (answer a) v = says v [] (refused 1)
to_monitor K s came accepted v = says v [] (refused 1)
to_monitor K s came (refused cause) v = says v [] (refused 1)

abbrev pub to_relying : Coding → Settings → Message → RelyingView → Step RelyingView
to_relying K s (certificate c) v = answers v (refused 1)
to_relying K s (sct p) v = answers v (refused 1)
to_relying K s (head h) v = answers v (refused 1)
to_relying K s (list b) v = on_list K s b v
to_relying K s (order name key) v = answers v (refused 1)
to_relying K s (challenge serial nonce) v = answers v (refused 1)
to_relying K s (published serial) v = answers v (refused 1)
to_relying K s (submit c) v = answers v (refused 1)
to_relying K s get_head v = answers v (refused 1)
to_relying K s (get_inclusion place count) v = answers v (refused 1)
to_relying K s (get_consistency from to) v = answers v (refused 1)
to_relying K s (get_entries from to) v = answers v (refused 1)
to_relying K s (revoke serial seal) v = answers v (refused 1)
to_relying K s get_list v = answers v (refused 1)
to_relying K s (bring c p) v = answers v (refused 1)
to_relying K s (present c p q) v = on_present K s c p q v
to_relying K s (inclusion path) v = answers v (refused 1)
to_relying K s (consistency path) v = answers v (refused 1)
to_relying K s (entries cs) v = answers v (refused 1)
to_relying K s (answer a) v = answers v (refused 1)
to_relying K s accepted v = answers v (refused 1)
to_relying K s (refused cause) v = answers v (refused 1)

-- Refusals

-- the numbers of causes
abbrev pub IsCause : ℕ → Type 0
IsCause n = (1 ≤ n) × (n ≤ 14)

-- what is refused is so by the number of a cause, and the view is as it was
abbrev pub UnchangedIfRefused : {V : Type 0} → V → V → Message → Type 0
UnchangedIfRefused before after said = (n : ℕ) → said ≡ refused n → (after ≡ before) × IsCause n

-- of every message whatever; of what an authority revokes by itself; and of a head that a log gave to a monitor, whose fault is told to nobody
pub record RefusalsChangeNothing : Type 0 where
  pub authority : (K : Coding) (s : Settings) (found : Option Bytes) (m : Message) (v : AuthorityView) →
      UnchangedIfRefused v (to_authority K s found m v).view (to_authority K s found m v).answer
  pub authority_itself : (K : Coding) (s : Settings) (serial : ℕ) (v : AuthorityView) → UnchangedIfRefused v (withdraw K s serial v).view (withdraw K s serial v).answer
  pub log : (K : Coding) (m : Message) (v : LogView) → UnchangedIfRefused v (to_log K m v).view (to_log K m v).answer
  pub monitor : (K : Coding) (s : Settings) (came : Option Fetched) (m : Message) (v : MonitorView) →
      UnchangedIfRefused v (to_monitor K s came m v).view (to_monitor K s came m v).says
  pub monitor_of_head : (K : Coding) (f : Fetched) (v : MonitorView) (n : ℕ) → (on_fetched K f v).fault ≡ Some n → ((on_fetched K f v).view ≡ v) × IsCause n
  pub relying : (K : Coding) (s : Settings) (m : Message) (v : RelyingView) → UnchangedIfRefused v (to_relying K s m v).view (to_relying K s m v).answer

-- Time never runs back

-- a tick below the last changes nothing, and nothing is sent
pub record EarlierTicksChangeNothing : Type 0 where
  pub authority : (K : Coding) (s : Settings) (t : ℕ) (v : AuthorityView) → t < v.now → ((authority_tick K s t v).view ≡ v) × ((authority_tick K s t v).sends ≡ [])
  pub log : (K : Coding) (t : ℕ) (v : LogView) → t < v.now → ((log_tick K t v).view ≡ v) × ((log_tick K t v).sends ≡ [])
  pub monitor : (t : ℕ) (v : MonitorView) → t < v.now → monitor_tick t v ≡ v
  pub relying : (t : ℕ) (v : RelyingView) → t < v.now → relying_tick t v ≡ v

-- The kinds that are for each party

abbrev pub authority_kinds : List ℕ
authority_kinds = 5 ∷ (7 ∷ (13 ∷ (14 ∷ [])))

abbrev pub log_kinds : List ℕ
log_kinds = 8 ∷ (9 ∷ (10 ∷ (11 ∷ (12 ∷ []))))

abbrev pub monitor_kinds : List ℕ
monitor_kinds = 15 ∷ []

abbrev pub relying_kinds : List ℕ
relying_kinds = 4 ∷ (16 ∷ [])

-- all others are refused as unknown
pub record KindsOfOthers : Type 0 where
  pub authority : (K : Coding) (s : Settings) (found : Option Bytes) (m : Message) (v : AuthorityView) → ¬ (kind m ∈ authority_kinds) →
      to_authority K s found m v ≡ answers v (refused 1)
  pub log : (K : Coding) (m : Message) (v : LogView) → ¬ (kind m ∈ log_kinds) → to_log K m v ≡ answers v (refused 1)
  pub monitor : (K : Coding) (s : Settings) (came : Option Fetched) (m : Message) (v : MonitorView) → ¬ (kind m ∈ monitor_kinds) →
      to_monitor K s came m v ≡ says v [] (refused 1)
  pub relying : (K : Coding) (s : Settings) (m : Message) (v : RelyingView) → ¬ (kind m ∈ relying_kinds) → to_relying K s m v ≡ answers v (refused 1)
