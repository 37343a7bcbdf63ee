-- What a writer leaves behind. Assumes nothing.
use Rattle.std.specs.Prelude.{◌≡◌, ℕ, List, ◌++◌, vec_items, Result, Vec, MatchResult}
use Rattle.std.specs.declared.alloc.Global.{Global}
use Rattle.wire_theory.specs.Messages.{Fits, encode}
use Rattle.wire.specs.declared.message.Message.{Message}
use Rattle.wire.specs.Sound.{Sound}
use Rattle.wire.specs.Views.{message_of}
use Rattle.wire.specs.declared.refusal.Refusal.{Refusal}
use Rattle.wire.specs.Refusals.{Because}

-- these bytes stand behind what was there, and are those of something well-formed
pub record Written (before after : Vec ℕ Global) (bytes : List ℕ) (Fit : Type 0) : Type 0 where
  pub items : vec_items after ≡ vec_items before ++ bytes
  pub fits : Fit

-- what was there is there, and nothing more
pub record Refuses (before after : Vec ℕ Global) (Wrong : Type 0) (e : Refusal) : Type 0 where
  pub items : vec_items after ≡ vec_items before
  pub why : Because Wrong e

-- the message's bytes are written; or nothing, since it isn't well-formed or memory is wanting
abbrev pub WritesOrRefuses : {T : Type 0} → Message → Vec ℕ Global → Vec ℕ Global → Result T Refusal → Type 0
WritesOrRefuses m before after r = MatchResult r (λ _. Written before after (encode (message_of m)) (Fits (message_of m))) (Refuses before after (Sound m → Fits (message_of m) → ⊥))
