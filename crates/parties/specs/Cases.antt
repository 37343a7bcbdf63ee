-- Worked cases: what is published is of another key; and when a promise convicts. Assumes nothing.
use Rattle.std.specs.Prelude.{◌≡◌, ℕ, true, List, [], ◌∷◌, ◌++◌, replicate, Some, None, codes}
use Rattle.std.specs.List.{AllByRecursion}
use Rattle.wire_theory.specs.Bytes.{Bytes}
use Rattle.wire_theory.specs.Messages.{Message, SignedSct, SignedHead, Settings}
use Rattle.wire_theory.specs.Messages.Message.{certificate, order, published, refused}
use Rattle.parties.specs.Coding.{Coding}
use Rattle.parties.specs.Authority.{AuthorityView, new_authority}
use Rattle.parties.specs.Evidence.{Verdict, judge}
use Rattle.parties.specs.Evidence.Verdict.{Convicts, NotSo}
use Rattle.parties.specs.Handling.{to_authority}

-- a coding in which each text is its own digest, and signatures are empty: all that is told apart is told by what is in the texts
abbrev pub plain : Coding
plain = record {
  hash = λ text. text;
  text = λ c. c.name ++ c.key;
  response_text = λ serial nonce key. serial ∷ (nonce ++ key);
  knows_authority = λ a. true;
  knows_log = λ l. true;
  seal_certificate = λ c. [];
  seal_sct = λ p. [];
  seal_head = λ h. [];
  seal_list = λ b. [];
  seal_revoke = λ a serial key. [];
}

abbrev pub settings : Settings
settings = record { mmd = 10; freshness = 60; lifetime = 1000 }

abbrev pub nonce : Bytes
nonce = replicate 16 5

-- authority 1 has an order of Astrid's, for a key
abbrev pub ordered_for : Bytes → AuthorityView
ordered_for key = (to_authority plain settings None (order (codes "Astrid") key) (new_authority 1 nonce)).view

abbrev pub response_for : Bytes → Bytes
response_for key = plain.hash (plain.response_text 1 nonce key)

abbrev pub promise_at : ℕ → SignedSct
promise_at t = record { log = 1; digest = codes "Astrid"; at = t; seal = [] }

-- of a log without entries
abbrev pub empty_head_at : ℕ → SignedHead
empty_head_at t = record { log = 1; at = t; count = 0; root = plain.hash []; seal = [] }

pub data Case : Type 0 where
  -- the order's key, the key for which the response stands at the name, and what the authority answers
  Published : Bytes → Bytes → Message → Case
  -- the tick of a promise, that of a head without the certificate, and the verdict
  Judged : ℕ → ℕ → Verdict → Case

abbrev pub Holds : Case → Type 0
Holds (Published ordered responded said) = (to_authority plain settings (Some (response_for responded)) (published 1) (ordered_for ordered)).answer ≡ said
Holds (Judged promised headed verdict) = judge plain settings (promise_at promised) (empty_head_at headed) [] ≡ verdict

abbrev pub cases : List Case
cases =
    Published (7 ∷ []) (8 ∷ []) (refused 4) ∷
    (Published (7 ∷ []) (7 ∷ []) (certificate (record { issuer = 1; name = codes "Astrid"; key = 7 ∷ []; serial = 1; expiry = 1000; seal = [] })) ∷
    (Judged 100 109 (NotSo 2) ∷ (Judged 100 110 Convicts ∷ [])))

abbrev pub CasesHold : Type 0
CasesHold = AllByRecursion Holds cases
