-- The lives of the parties: whatever comes to each, in any order. Assumes nothing.
use Rattle.std.specs.Prelude.{ℕ, Option}
use Rattle.wire_theory.specs.Bytes.{Bytes}
use Rattle.wire_theory.specs.Messages.{Message, Settings, MonitorAnswer}
use Rattle.parties.specs.Coding.{Coding}
use Rattle.parties.specs.Authority.{AuthorityView, withdraw, on_tick as authority_tick}
use Rattle.parties.specs.Log.{LogView, on_tick as log_tick}
use Rattle.parties.specs.Monitor.{MonitorView, Fetched, on_fetched, asking, on_tick as monitor_tick}
use Rattle.parties.specs.RelyingParty.{RelyingView, Which, on_answer, on_tick as relying_tick}
use Rattle.parties.specs.Handling.{to_authority, to_log, to_monitor, to_relying}

-- a view from which another comes by any events one after the other
pub data Run {V E : Type 0} (after : E → V → V) : V → V → Type 0 where
  here : {v : V} → Run after v v
  onward : {v u : V} → Run after v u → (e : E) → Run after v (after e u)

-- time passes; a message comes, with what stands at the name; the authority revokes a serial by itself
pub data AuthorityEvent : Type 0 where
  Ticks : ℕ → AuthorityEvent
  Gets : Option Bytes → Message → AuthorityEvent
  Withdraws : ℕ → AuthorityEvent

abbrev pub authority_after : Coding → Settings → AuthorityEvent → AuthorityView → AuthorityView
authority_after K s (AuthorityEvent.Ticks t) v = (authority_tick K s t v).view
authority_after K s (AuthorityEvent.Gets found m) v = (to_authority K s found m v).view
authority_after K s (AuthorityEvent.Withdraws serial) v = (withdraw K s serial v).view

abbrev pub AuthorityRun : Coding → Settings → AuthorityView → AuthorityView → Type 0
AuthorityRun K s = Run (authority_after K s)

pub data LogEvent : Type 0 where
  Ticks : ℕ → LogEvent
  Gets : Message → LogEvent

abbrev pub log_after : Coding → LogEvent → LogView → LogView
log_after K (LogEvent.Ticks t) v = (log_tick K t v).view
log_after K (LogEvent.Gets m) v = (to_log K m v).view

abbrev pub LogRun : Coding → LogView → LogView → Type 0
LogRun K = Run (log_after K)

-- time passes; a message comes, with what the log answers if it is asked; it asks a log for a head; a log answers that was asked
pub data MonitorEvent : Type 0 where
  Ticks : ℕ → MonitorEvent
  Gets : Option Fetched → Message → MonitorEvent
  Asks : ℕ → MonitorEvent
  Fetches : Fetched → MonitorEvent

abbrev pub monitor_after : Coding → Settings → MonitorEvent → MonitorView → MonitorView
monitor_after K s (MonitorEvent.Ticks t) v = monitor_tick t v
monitor_after K s (MonitorEvent.Gets came m) v = (to_monitor K s came m v).view
monitor_after K s (MonitorEvent.Asks log) v = asking log v
monitor_after K s (MonitorEvent.Fetches f) v = (on_fetched K f v).view

abbrev pub MonitorRun : Coding → Settings → MonitorView → MonitorView → Type 0
MonitorRun K s = Run (monitor_after K s)

-- time passes; a message comes; the monitor answers to a promise of an acceptance, so many back
pub data RelyingEvent : Type 0 where
  Ticks : ℕ → RelyingEvent
  Gets : Message → RelyingEvent
  Hears : ℕ → Which → MonitorAnswer → RelyingEvent

abbrev pub relying_after : Coding → Settings → RelyingEvent → RelyingView → RelyingView
relying_after K s (RelyingEvent.Ticks t) v = relying_tick t v
relying_after K s (RelyingEvent.Gets m) v = (to_relying K s m v).view
relying_after K s (RelyingEvent.Hears back which a) v = on_answer K s back which a v

abbrev pub RelyingRun : Coding → Settings → RelyingView → RelyingView → Type 0
RelyingRun K s = Run (relying_after K s)
