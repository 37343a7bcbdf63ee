-- The worked cases hold. Assumes nothing.
use Rattle.std.proofs.Common.{◌≡◌, ℕ, [], ◌∷◌, get_or, codes, refl, ap, arith}
use Rattle.merkle_theory.specs.Bytes.{over_leaves}
use Rattle.merkle_theory.specs.Tree.{root_f, root}
use Rattle.wire_theory.specs.Bytes.{Bytes}
use Rattle.wire_theory.specs.Messages.Message.{refused, certificate}
use Rattle.parties.specs.Steps.{first_fault}
use Rattle.parties.specs.Authority.{account_of}
use Rattle.parties.specs.Judging.Tells.{early, convicts}
use Rattle.parties.specs.Cases.{plain, settings, promise_at, empty_head_at, response_for, Holds, CasesHold}
use Rattle.parties.specs.Cases.Case.{Published}
use Rattle.parties.proofs.Compared.{same_from, differ_from}
use Rattle.parties.proofs.Judging.{judges_right}

another_key : Holds (Published (7 ∷ []) (8 ∷ []) (refused 4))
unfolding first_fault account_of
another_key = rw (differ_from (response_for (8 ∷ [])) (response_for (7 ∷ [])) (λ e. let z : ◌≡◌ {A = ℕ} 8 7 = ap (λ (t : Bytes). get_or t 17 0) e in omega (arith, z)))

own_key : Holds (Published (7 ∷ []) (7 ∷ []) (certificate (record { issuer = 1; name = codes "Astrid"; key = 7 ∷ []; serial = 1; expiry = 1000; seal = [] })))
unfolding first_fault account_of
own_key = rw (same_from (response_for (7 ∷ [])) (response_for (7 ∷ [])) refl)

no_entries : root (over_leaves plain.hash) [] ≡ []
unfolding root root_f
no_entries = refl

pub cases_hold : CasesHold
cases_hold = (
  another_key,
  (
    own_key,
    (
      (judges_right plain settings (promise_at 100) (empty_head_at 109) [] _).1 (early (refl, refl) (refl, refl) refl (λ l. omega (arith, l))),
      ((judges_right plain settings (promise_at 100) (empty_head_at 110) [] _).1 (convicts (refl, refl) (refl, refl) refl (omega arith) (λ m. elim m [ ]) (refl, no_entries) (omega arith, omega arith)), tt),
    ),
  ),
)
