-- Worked cases, as runs of the model: when a promise convicts, a log that hides a false certificate, and a revocation. Assumes nothing.
use Rattle.std.specs.Prelude.{ℕ, zero, suc, ◌+◌, Bool, false, List, [], ◌∷◌, ◌++◌, codes, ◌==◌}
use Rattle.std.specs.List.{AllByRecursion}
use Rattle.model.specs.Lists.{◌∈◌}
use Rattle.model.specs.Objects.{Certificate, Order, Sct, TreeHead, RevocationList, Acceptance}
use Rattle.model.specs.Objects.Signed.{Issued, Promised, Headed, Listed}
use Rattle.model.specs.World.{Event, World, Happened, start, apply}
use Rattle.model.specs.World.Sender.{Owner}
use Rattle.model.specs.World.Event.{Tick, Orders, Publishes, Signs, Merges, Takes, Revokes, Accepts}
use Rattle.model.specs.Rules.{Rules, Steps, MayAccept, response_to}
use Rattle.model.specs.Guarantees.{Evidence}

-- A run, and what is so at its end

pub data Move : Type 0 where
  Do : Event → Move
  Wait : ℕ → Move

unfoldable pub ticks : ℕ → List Event → List Event
ticks zero es = es
ticks (suc n) es = Tick ∷ ticks n es

-- so many ticks later
abbrev pub later : ℕ → World → World
later n w = record { past = ticks n w.past; now = w.now + n; next = w.next; entries = w.entries; seen = w.seen; revoked = w.revoked }

abbrev pub played : World → List Move → World
played w [] = w
played w (Do e ∷ ms) = played (apply w e) ms
played w (Wait n ∷ ms) = played (later n w) ms

pub data Claim : Type 0 where
  Convicted : Sct → TreeHead → Claim
  NotConvicted : Sct → TreeHead → Claim
  InSight : ℕ → ℕ → Certificate → Claim
  Tells : RevocationList → ℕ → Claim
  CannotAccept : Acceptance → Claim

abbrev pub Holds : Rules → World → Claim → Type 0
Holds r w (Convicted s h) = Evidence r w s h
Holds r w (NotConvicted s h) = ¬ Evidence r w s h
Holds r w (InSight n l c) = c ∈ (w.seen n l).entries
Holds r w (Tells b i) = Happened w (Signs (Listed b)) × (i ∈ b.serials)
Holds r w (CannotAccept x) = ¬ MayAccept r w x

pub record Case : Type 0 where
  pub rules : Rules
  pub moves : List Move
  pub claims : List Claim

-- the moves are a run of the model, and the claims hold at its end
pub record CaseHolds (c : Case) : Type 0 where
  pub events : ℕ
  pub run : Steps c.rules events start (played start c.moves)
  pub claims : AllByRecursion (Holds c.rules (played start c.moves)) c.claims

abbrev pub nobody : ℕ → Bool
nobody i = false

abbrev pub only : ℕ → ℕ → Bool
only i j = j == i

abbrev pub astrid : ℕ → ℕ → Certificate
astrid issuer expiry = record { issuer = issuer; name = codes "Astrid"; key = 7 ∷ []; serial = 1; expiry = expiry; seal = [] }

abbrev pub promise : ℕ → ℕ → Certificate → Sct
promise l t c = record { log = l; certificate = c; at = t }

abbrev pub head : ℕ → ℕ → List Certificate → TreeHead
head l t cs = record { log = l; at = t; entries = cs }

abbrev pub list : ℕ → ℕ → List ℕ → RevocationList
list a t is = record { authority = a; at = t; serials = is }

abbrev pub accepted : Certificate → ℕ → ℕ → RevocationList → Acceptance
accepted c promised t b = record { certificate = c; first = promise 1 promised c; second = promise 2 promised c; list = b; at = t }

-- A log that promised at tick 100 and has ten ticks is not convicted by its head of tick 109 without the certificate, and is by that of tick 110.
abbrev pub due_at_ten : Case
due_at_ten = record {
  rules = record { honest_authority = nobody; honest_log = nobody; mmd = 10; freshness = 60; lifetime = 1000 };
  moves = Do (Signs (Promised (promise 1 100 (astrid 1 1000)))) ∷ (Do (Signs (Headed (head 1 109 []))) ∷ (Do (Signs (Headed (head 1 110 []))) ∷ []));
  claims = NotConvicted (promise 1 100 (astrid 1 1000)) (head 1 109 []) ∷ (Convicted (promise 1 100 (astrid 1 1000)) (head 1 110 []) ∷ []);
}

-- A dishonest authority gives a certificate in Astrid's name, and logs 1 and 2 promise it. It is accepted. Log 1 is honest and merges it, so Astrid's monitor sees it there; log 2 hides it, and by
-- its promise and its head is convicted.
abbrev pub hidden_until_heads : List Move
hidden_until_heads =
    Do (Signs (Issued (astrid 3 900))) ∷ (Do (Signs (Promised (promise 1 1 (astrid 3 900)))) ∷ (Do (Signs (Promised (promise 2 1 (astrid 3 900)))) ∷
    (Do (Signs (Listed (list 3 1 []))) ∷ (Do (Accepts (accepted (astrid 3 900) 1 1 (list 3 1 []))) ∷ (Wait 10 ∷ (Do (Merges 1 (astrid 3 900)) ∷ []))))))

abbrev pub hidden : Case
hidden = record {
  rules = record { honest_authority = nobody; honest_log = only 1; mmd = 10; freshness = 60; lifetime = 1000 };
  moves = hidden_until_heads ++
      (Do (Signs (Headed (head 1 11 (astrid 3 900 ∷ [])))) ∷ (Do (Signs (Headed (head 2 11 []))) ∷ (Do (Takes 0 (head 1 11 (astrid 3 900 ∷ []))) ∷ (Do (Takes 0 (head 2 11 [])) ∷ []))));
  claims = InSight 0 1 (astrid 3 900) ∷ (Convicted (promise 2 1 (astrid 3 900)) (head 2 11 []) ∷ []);
}

-- An honest authority revokes at tick 500, and lists are fresh for 60 ticks: by a list of tick 499 the certificate is accepted at tick 559, and not at 560; a list of tick 500 that is signed
-- after the revocation has the serial.
abbrev pub order : Order
order = record { authority = 1; name = codes "Astrid"; key = 7 ∷ []; serial = 1; nonce = 9 ∷ [] }

abbrev pub until_revocation : List Move
until_revocation =
    Do (Orders Owner order) ∷ (Do (Publishes (response_to order)) ∷ (Do (Signs (Issued (astrid 1 1001))) ∷
    (Do (Signs (Promised (promise 1 1 (astrid 1 1001)))) ∷ (Do (Signs (Promised (promise 2 1 (astrid 1 1001)))) ∷ (Wait 498 ∷ (Do (Signs (Listed (list 1 499 []))) ∷ (Wait 1 ∷ [])))))))

abbrev pub from_revocation : List Move
from_revocation =
    Do (Revokes (record { authority = 1; serial = 1; at = 500 })) ∷ (Do (Signs (Listed (list 1 500 (1 ∷ [])))) ∷ (Wait 59 ∷
    (Do (Accepts (accepted (astrid 1 1001) 1 559 (list 1 499 []))) ∷ (Wait 1 ∷ []))))

abbrev pub revoked : Case
revoked = record {
  rules = record { honest_authority = only 1; honest_log = nobody; mmd = 10; freshness = 60; lifetime = 1000 };
  moves = until_revocation ++ from_revocation;
  claims = Tells (list 1 500 (1 ∷ [])) 1 ∷ (CannotAccept (accepted (astrid 1 1001) 1 560 (list 1 499 [])) ∷ []);
}

abbrev pub table : List Case
table = due_at_ten ∷ (hidden ∷ (revoked ∷ []))

abbrev pub CasesHold : Type 0
CasesHold = AllByRecursion CaseHolds table
