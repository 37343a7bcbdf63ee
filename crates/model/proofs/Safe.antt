-- All guarantees together, and what they say of an acceptance. Assumes nothing.
use Rattle.std.proofs.Common.{◌⊎◌, subst}
use Rattle.model.specs.Lists.{◌∈◌}
use Rattle.model.specs.Objects.{Certificate}
use Rattle.model.specs.Guarantees.{Evidence, EveryWorldIsSafe, AcceptedIsSeen}
use Rattle.model.proofs.Issuing.{issuing}
use Rattle.model.proofs.Accepting.{accepting, promised}
use Rattle.model.proofs.Logging.{logging, in_sight}
use Rattle.model.proofs.Revoking.{revoking}
use Rattle.model.proofs.Possible.{possible}

pub every_world_is_safe : EveryWorldIsSafe
every_world_is_safe r positive k w run = record {
  issuing = issuing r k w run;
  accepting = accepting r k w run;
  logging = logging r k w run positive;
  revoking = revoking r k w run;
  possible = possible r k w run;
}

pub accepted_is_seen : AcceptedIsSeen
accepted_is_seen r positive k w run x h s m n late = let (given, of-it, by-then) = promised r k w run x h s m in
    subst (λ (c : Certificate). (c ∈ (w.seen n s.log).entries) ⊎ Evidence r w s (w.seen n s.log)) of-it (in_sight r k w run positive s given n late)
