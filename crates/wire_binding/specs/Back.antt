-- There and back, in the terms of the contracts of `read` and `write`. Assumes nothing.
use Rattle.std.specs.Prelude.{◌≡◌, ℕ, ◌++◌, Ok, vec_items, Result, Vec, MatchResult}
use Rattle.std.specs.declared.alloc.Global.{Global}
use Rattle.wire_theory.specs.Bytes.{Bytes}
use Rattle.wire_theory.specs.Messages.{Fits, encode}
use Rattle.wire.specs.declared.message.Message.{Message}
use Rattle.wire.specs.declared.refusal.Refusal.{Refusal}
use Rattle.wire.specs.declared.refusal.Refusal.TheVariants.{NoMemory}
use Rattle.wire.specs.Reading.{Reads, ReadsOrRefuses}
use Rattle.wire.specs.Views.{message_of}
use Rattle.wire_write.specs.Written.{WritesOrRefuses}

-- whatever `read` answers to bytes that are a message's, it is that message
abbrev pub ReadsBack : Type 0
ReadsBack =
    (m : Message) (s : Bytes) → s ≡ encode (message_of m) → Fits (message_of m) → (r : Result Message Refusal) → ReadsOrRefuses s r →
    (n : Message) × (r ≡ Ok n) × (message_of n ≡ message_of m)

-- whatever `write` does with a message that was read, it writes the bytes that it was read from, or memory was wanting and it wrote nothing
abbrev pub WritesBack : Type 0
WritesBack =
    (s : Bytes) (m : Message) → Reads s m → (before after : Vec ℕ Global) (r : Result (Unit {0}) Refusal) → WritesOrRefuses m before after r →
    MatchResult r (λ _. vec_items after ≡ vec_items before ++ s) (λ e. (e ≡ NoMemory) × (vec_items after ≡ vec_items before))
