-- What has the shape of no kind. Assumes nothing.
use Rattle.std.proofs.Common.{◌≡◌, ℕ, Bool, true, false, cond, eqb, [], ◌∷◌, None, Some, Option, Ok, Err, Result, MatchOption, MatchResult, length, sym, refl, ap, ◌∙◌, arith}
use Rattle.std.specs.Option.{ok_or}
use Rattle.std.specs.Result.{result_ok}
use Rattle.std.proofs.lemmas.List.{nil_from_length}
use Rattle.std.proofs.lemmas.Option.{none-some}
use Rattle.std.proofs.lemmas.Bool.{ne_eqb, true≢false}
use Rattle.wire_theory.specs.Bytes.{Bytes}
use Rattle.wire_theory.specs.Messages.{answer_bytes, encode}
use Rattle.wire_theory.specs.Shapes.{AnswerShape, Shape, Shaped}
use Rattle.wire.specs.declared.kind.AnswerKind.{AnswerKind}
use Rattle.wire.specs.declared.kind.AnswerKind.TheVariants as answer
use Rattle.wire.specs.declared.kind.Kind.{Kind}
use Rattle.wire.specs.declared.kind.Kind.TheVariants as kind
use Rattle.wire.specs.declared.message.Message.{Message}
use Rattle.wire.specs.declared.message.Message.TheVariants as message
use Rattle.wire.specs.declared.message.MonitorAnswer.{MonitorAnswer}
use Rattle.wire.specs.declared.message.MonitorAnswer.TheVariants as given
use Rattle.wire.specs.declared.refusal.Refusal.{Refusal}
use Rattle.wire.specs.declared.refusal.Refusal.TheVariants.{Unreadable}
use Rattle.wire.specs.Kinds.{IsAnswerKindOf, IsKindOf, answer_number, kind_number}
use Rattle.wire.specs.Reading.{OfKind, Reads}
use Rattle.wire.specs.Refusals.{refusal_number}

second : (b : Bool) (A B : Type 0) → b ≡ false → cond b A B → B
second true A B e x = absurd (true≢false e)
second false A B e x = x

-- it is not the first of the cases
other : (A B : Type 0) (n k : ℕ) → (k ≡ n → ⊥) → cond (eqb n k) A B → B
other A B n k differ = second (eqb n k) A B (ne_eqb n k (λ e. differ (sym e)))

pub no_kind : (n : ℕ) (s : Bytes) → ((k : Kind) → kind_number k ≡ n → ⊥) → Shape n s → ⊥
no_kind n s none shape =
    other _ _ n 31 (none kind.Refused) (other _ _ n 30 (none kind.Accepted) (other _ _ n 29 (none kind.Answer) (other _ _ n 28 (none kind.Entries)
    (other _ _ n 27 (none kind.Consistency) (other _ _ n 26 (none kind.Inclusion) (other _ _ n 16 (none kind.Present) (other _ _ n 15 (none kind.Bring)
    (other _ _ n 14 (none kind.GetList) (other _ _ n 13 (none kind.Revoke) (other _ _ n 12 (none kind.GetEntries) (other _ _ n 11 (none kind.GetConsistency)
    (other _ _ n 10 (none kind.GetInclusion) (other _ _ n 9 (none kind.GetHead) (other _ _ n 8 (none kind.Submit) (other _ _ n 7 (none kind.Published)
    (other _ _ n 6 (none kind.Challenge) (other _ _ n 5 (none kind.Order) (other _ _ n 4 (none kind.RevocationList) (other _ _ n 3 (none kind.TreeHead)
    (other _ _ n 2 (none kind.Sct) (other _ _ n 1 (none kind.Certificate) shape)))))))))))))))))))))

pub no_answer : (n : ℕ) (s : Bytes) → ((k : AnswerKind) → answer_number k ≡ n → ⊥) → AnswerShape n s → ⊥
no_answer n s none shape =
    other _ _ n 4 (none answer.NoHeadSoLate) (other _ _ n 3 (none answer.Convicts) (other _ _ n 2 (none answer.NotDue) (other _ _ n 1 (none answer.Included) shape)))

-- what a number gives, where `ok` of it is nothing
pub no_kind_found : (n : ℕ) (s : Bytes) (r : Result Kind Refusal) (o : Option Kind) → IsKindOf n r → o ≡ result_ok r → o ≡ None → Shape n s → ⊥
no_kind_found n s (Ok k) o h is none = absurd (none-some _ (sym none ∙ is))
no_kind_found n s (Err f) o h is none = no_kind n s h.1

pub no_answer_found : (n : ℕ) (s : Bytes) (r : Result AnswerKind Refusal) (o : Option AnswerKind) → IsAnswerKindOf n r → o ≡ result_ok r → o ≡ None → AnswerShape n s → ⊥
no_answer_found n s (Ok k) o h is none = absurd (none-some _ (sym none ∙ is))
no_answer_found n s (Err f) o h is none = no_answer n s h.1

pub answer_found : (n : ℕ) (r : Result AnswerKind Refusal) (o : Option AnswerKind) (k : AnswerKind) → IsAnswerKindOf n r → o ≡ result_ok r → o ≡ Some k → answer_number k ≡ n
answer_found n (Ok j) o k h is some = let same : Some j ≡ Some k = sym is ∙ some in let inner : k ≡ j = cc in ap answer_number inner ∙ h
answer_found n (Err f) o k h is some = absurd (none-some _ (sym is ∙ some))

-- a reader's answer handed on
pub answered : {A : Type 0} (P : A → Type 0) (N Q : Type 0) (o : Option A) (r : Result A Refusal) → r ≡ ok_or o Unreadable → MatchOption o N P → (N → Q) → MatchResult r P (λ f. (refusal_number f ≡ Some 1) × Q)
answered P N Q (Some x) r e h none = rw e h
answered P N Q None r e h none = rw e (refl, none h)

pub of_kind : (s body : Bytes) (found kind : Kind) (r : Option Message) → s ≡ kind_number found ∷ body → found ≡ kind → OfKind kind body r → MatchOption r (Shaped s → ⊥) (Reads s)
of_kind s body found kind r e k h = rw (e, k) h

-- ---- nothing more than a kind

-- what a closure makes is just this message
pub made : (body : Bytes) (m : Message) (P : Message → Type 0) (r : Option Message) → MatchOption r (body ≡ [] → ⊥) (λ x. (body ≡ []) × P x) → ((x : Message) → P x → x ≡ m) → MatchOption r (body ≡ [] → ⊥) (λ x. (body ≡ []) × (x ≡ m))
made body m P None h is = h
made body m P (Some x) h is = (h.0, is x h.1)

module _ (k : Kind) (m : Message) (is : Reads (kind_number k ∷ []) m) (only : (s : Bytes) → Shape (kind_number k) (kind_number k ∷ s) → s ≡ []) where
  bare_read : (body : Bytes) (r : Option Message) → MatchOption r (body ≡ [] → ⊥) (λ x. (body ≡ []) × (x ≡ m)) → OfKind k body r
  bare_read body None h = λ shape. h (only body shape)
  bare_read body (Some x) h = rw (h.1, h.0) is

alone : (n : ℕ) (s : Bytes) → length (n ∷ s) ≡ 1 → s ≡ []
alone n s l = nil_from_length s (omega (arith, l))

pub get_head_read : (body : Bytes) (r : Option Message) → MatchOption r (body ≡ [] → ⊥) (λ x. (body ≡ []) × (x ≡ message.GetHead)) → OfKind kind.GetHead body r
unfolding encode
get_head_read = bare_read kind.GetHead message.GetHead (record { encodes = record { bytes = refl; fits = tt }; sound = tt }) (alone 9)

pub get_list_read : (body : Bytes) (r : Option Message) → MatchOption r (body ≡ [] → ⊥) (λ x. (body ≡ []) × (x ≡ message.GetList)) → OfKind kind.GetList body r
unfolding encode
get_list_read = bare_read kind.GetList message.GetList (record { encodes = record { bytes = refl; fits = tt }; sound = tt }) (alone 14)

pub accepted_read : (body : Bytes) (r : Option Message) → MatchOption r (body ≡ [] → ⊥) (λ x. (body ≡ []) × (x ≡ message.Accepted)) → OfKind kind.Accepted body r
unfolding encode
accepted_read = bare_read kind.Accepted message.Accepted (record { encodes = record { bytes = refl; fits = tt }; sound = tt }) (alone 30)

module _ (n : ℕ) (a : MonitorAnswer) (is : Reads (29 ∷ (n ∷ [])) (message.Answer a)) (only : (s : Bytes) → AnswerShape n (29 ∷ (n ∷ s)) → s ≡ []) where
  bare_answer : (body rest : Bytes) (what : ℕ) (r : Option Message) → body ≡ what ∷ rest → n ≡ what → MatchOption r (rest ≡ [] → ⊥) (λ x. (rest ≡ []) × (x ≡ message.Answer a)) → OfKind kind.Answer body r
  bare_answer body rest what None e k h = rw (e, sym k) (λ shape. h (only rest shape))
  bare_answer body rest what (Some x) e k h = rw (h.1, e, sym k, h.0) is

two : (n : ℕ) (s : Bytes) → length (29 ∷ (n ∷ s)) ≡ 2 → s ≡ []
two n s l = nil_from_length s (omega (arith, l))

pub not_due_read : (body rest : Bytes) (what : ℕ) (r : Option Message) → body ≡ what ∷ rest → 2 ≡ what → MatchOption r (rest ≡ [] → ⊥) (λ x. (rest ≡ []) × (x ≡ message.Answer given.NotDue)) → OfKind kind.Answer body r
unfolding encode answer_bytes
not_due_read = bare_answer 2 given.NotDue (record { encodes = record { bytes = refl; fits = tt }; sound = tt }) (two 2)

pub no_head_read : (body rest : Bytes) (what : ℕ) (r : Option Message) → body ≡ what ∷ rest → 4 ≡ what → MatchOption r (rest ≡ [] → ⊥) (λ x. (rest ≡ []) × (x ≡ message.Answer given.NoHeadSoLate)) → OfKind kind.Answer body r
unfolding encode answer_bytes
no_head_read = bare_answer 4 given.NoHeadSoLate (record { encodes = record { bytes = refl; fits = tt }; sound = tt }) (two 4)
