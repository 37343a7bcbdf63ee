-- A verdict on evidence is given exactly if what it says is so. Assumes nothing.
use Rattle.std.proofs.Common.{◌≡◌, ℕ, ◌^◌, ◌<◌, Bool, true, false, not, ◌&&◌, eqb, List, [], ◌∷◌, refl, subst, inl, inr, true≢false, arith}
use mathlib.Core.Bool.{false≢true}
use Rattle.std.proofs.lemmas.Bool.{and_parts, and_cases, both_ways, eqb-true, eqb-false, leb-true, leb-false, cases_Bool, not-true, not-false}
use Rattle.wire_theory.specs.Bytes.{Bytes}
use Rattle.wire_theory.specs.Messages.{SignedSct, SignedHead, Settings}
use Rattle.parties.specs.Coding.{Coding, same_bytes, has, right_sct, right_head}
use Rattle.parties.specs.Steps.{◌⇒◌, first_fault, too_large}
use Rattle.parties.specs.Evidence.{Verdict, or_so, is_late, gives_root}
use Rattle.parties.specs.Evidence.Verdict.{Convicts, Refused, NotSo}
use Rattle.parties.specs.Judging.{Known, Signed, OneLog, Late, Missing, GiveTheRoot, InRange, Tells, JudgesRight}
use Rattle.parties.specs.Judging.Tells.{unknown, unsigned, two_logs, early, there, another_root, out_of_range, convicts}
use Rattle.parties.proofs.Compared.{same_true, same_false, has_true, has_false}

-- a test tells whether something is so
pub record Told (b : Bool) (P : Type 0) : Type 0 where
  pub so : b ≡ true → P
  pub not_so : b ≡ false → ¬ P

is_true : {P : Type 0} {b : Bool} → Told b P → P → b ≡ true
is_true {b = b} t p = elim (cases_Bool b) [ inl e ↦ e | inr e ↦ absurd (t.not_so e p) ]

is_false : {P : Type 0} {b : Bool} → Told b P → ¬ P → b ≡ false
is_false {b = b} t n = elim (cases_Bool b) [ inl e ↦ absurd (n (t.so e)) | inr e ↦ e ]

told_both : {P Q : Type 0} (b c : Bool) → Told b P → Told c Q → Told (b && c) (P × Q)
told_both b c t u = record {
  so = λ e. (t.so (and_parts _ _ e).0, u.so (and_parts _ _ e).1);
  not_so = λ e (p, q). elim (and_cases b c e) [ inl f ↦ t.not_so f p | inr f ↦ u.not_so f q ];
}

told_not : {P : Type 0} (b : Bool) → Told b P → Told (not b) (¬ P)
told_not true t = record { so = λ e. absurd (false≢true e); not_so = λ e n. n (t.so refl) }
told_not false t = record { so = λ e. t.not_so refl; not_so = λ e n. true≢false e }

told_itself : (b : Bool) → Told b (b ≡ true)
told_itself b = record { so = λ e. e; not_so = λ e. both_ways b e }

told_same : (s t : Bytes) → Told (same_bytes s t) (s ≡ t)
told_same s t = record { so = same_true s t; not_so = same_false s t }

told_equal : (m n : ℕ) → Told (eqb m n) (m ≡ n)
told_equal m n = record { so = eqb-true m n; not_so = eqb-false m n }

told_small : (n : ℕ) → Told (not (too_large n)) (n < 2 ^ 63)
told_small n = told (too_large n) refl
  where
    told : (b : Bool) → too_large n ≡ b → Told (not b) (n < 2 ^ 63)
    told true e = record { so = λ z. absurd (false≢true z); not_so = λ z l. omega (arith, leb-true _ _ e) }
    told false e = record { so = λ z. leb-false _ _ e; not_so = λ z. absurd (true≢false z) }

-- the verdict by the tests alone
verdict : Bool → Bool → Bool → Bool → Bool → Bool → Bool → Bool → Verdict
verdict known signed one late has root large larger =
    or_so (first_fault (not known ⇒ 2 ∷ (not signed ⇒ 3 ∷ []))) Refused
    (or_so (first_fault (not one ⇒ 1 ∷ (not late ⇒ 2 ∷ (has ⇒ 3 ∷ (not root ⇒ 4 ∷ []))))) NotSo
    (or_so (first_fault (large ⇒ 14 ∷ (larger ⇒ 14 ∷ []))) Refused Convicts))

module _ (K : Coding) (s : Settings) (p : SignedSct) (h : SignedHead) (ds : List Bytes) where
  -- the tests tell whether the parts are so
  pub record Tested (known signed one late has root large larger : Bool) : Type 0 where
    pub is_known : Told known (Known K s p h ds)
    pub is_signed : Told signed (Signed K s p h ds)
    pub is_one : Told one (OneLog K s p h ds)
    pub is_late : Told late (Late K s p h ds)
    pub is_missing : Told (not has) (Missing K s p h ds)
    pub is_root : Told root (GiveTheRoot K s p h ds)
    pub is_in_range : Told (not large && not larger) (InRange K s p h ds)

  tested : Tested (K.knows_log p.log && K.knows_log h.log) (right_sct K p && right_head K h) (eqb p.log h.log) (is_late s p h) (has p.digest ds) (gives_root K ds h)
      (too_large p.at) (too_large h.at)
  tested = record {
    is_known = told_both _ _ (told_itself _) (told_itself _);
    is_signed = told_both _ _ (told_same _ _) (told_same _ _);
    is_one = told_equal _ _;
    is_late = record { so = leb-true _ _; not_so = λ e l. omega (arith, leb-false _ _ e) };
    is_missing = told_not _ (record { so = has_true _ _; not_so = has_false _ _ });
    is_root = told_both _ _ (told_equal _ _) (told_same _ _);
    is_in_range = told_both _ _ (told_small _) (told_small _);
  }

  says_so : (known signed one late has root large larger : Bool) → Tested known signed one late has root large larger → Tells K s p h ds (verdict known signed one late has root large larger)
  unfolding first_fault verdict
  says_so false signed one late has root large larger t = unknown (t.is_known.not_so refl)
  says_so true false one late has root large larger t = unsigned (t.is_known.so refl) (t.is_signed.not_so refl)
  says_so true true false late has root large larger t = two_logs (t.is_known.so refl) (t.is_signed.so refl) (t.is_one.not_so refl)
  says_so true true true false has root large larger t = early (t.is_known.so refl) (t.is_signed.so refl) (t.is_one.so refl) (t.is_late.not_so refl)
  says_so true true true true true root large larger t = there (t.is_known.so refl) (t.is_signed.so refl) (t.is_one.so refl) (t.is_late.so refl) (t.is_missing.not_so refl)
  says_so true true true true false false large larger t =
      another_root (t.is_known.so refl) (t.is_signed.so refl) (t.is_one.so refl) (t.is_late.so refl) (t.is_missing.so refl) (t.is_root.not_so refl)
  says_so true true true true false true true larger t =
      out_of_range (t.is_known.so refl) (t.is_signed.so refl) (t.is_one.so refl) (t.is_late.so refl) (t.is_missing.so refl) (t.is_root.so refl) (t.is_in_range.not_so refl)
  says_so true true true true false true false true t =
      out_of_range (t.is_known.so refl) (t.is_signed.so refl) (t.is_one.so refl) (t.is_late.so refl) (t.is_missing.so refl) (t.is_root.so refl) (t.is_in_range.not_so refl)
  says_so true true true true false true false false t =
      convicts (t.is_known.so refl) (t.is_signed.so refl) (t.is_one.so refl) (t.is_late.so refl) (t.is_missing.so refl) (t.is_root.so refl) (t.is_in_range.so refl)

  too_large_lem : (large larger : Bool) → (not large && not larger) ≡ false → verdict true true true true false true large larger ≡ Refused 14
  unfolding first_fault verdict
  too_large_lem true larger e = refl
  too_large_lem false true e = refl
  too_large_lem false false e = absurd (true≢false e)

  in_range : (large larger : Bool) → (not large && not larger) ≡ true → verdict true true true true false true large larger ≡ Convicts
  unfolding first_fault verdict
  in_range true larger e = absurd (false≢true e)
  in_range false true e = absurd (false≢true e)
  in_range false false e = refl

  is_said : (known signed one late has root large larger : Bool) → Tested known signed one late has root large larger → (x : Verdict) → Tells K s p h ds x →
      verdict known signed one late has root large larger ≡ x
  unfolding first_fault verdict
  is_said known signed one late has root large larger t x (unknown k) = rw (is_false t.is_known k)
  is_said known signed one late has root large larger t x (unsigned k i) = rw (is_true t.is_known k, is_false t.is_signed i)
  is_said known signed one late has root large larger t x (two_logs k i o) = rw (is_true t.is_known k, is_true t.is_signed i, is_false t.is_one o)
  is_said known signed one late has root large larger t x (early k i o l) = rw (is_true t.is_known k, is_true t.is_signed i, is_true t.is_one o, is_false t.is_late l)
  is_said known signed one late has root large larger t x (there k i o l m) =
      rw (is_true t.is_known k, is_true t.is_signed i, is_true t.is_one o, is_true t.is_late l, not-false has (is_false t.is_missing m))
  is_said known signed one late has root large larger t x (another_root k i o l m g) =
      rw (is_true t.is_known k, is_true t.is_signed i, is_true t.is_one o, is_true t.is_late l, not-true has (is_true t.is_missing m), is_false t.is_root g)
  is_said known signed one late has root large larger t x (out_of_range k i o l m g r) =
      rw (is_true t.is_known k, is_true t.is_signed i, is_true t.is_one o, is_true t.is_late l, not-true has (is_true t.is_missing m), is_true t.is_root g)
      (too_large_lem large larger (is_false t.is_in_range r))
  is_said known signed one late has root large larger t x (convicts k i o l m g r) =
      rw (is_true t.is_known k, is_true t.is_signed i, is_true t.is_one o, is_true t.is_late l, not-true has (is_true t.is_missing m), is_true t.is_root g)
      (in_range large larger (is_true t.is_in_range r))

pub judges_right : JudgesRight
unfolding verdict
judges_right K s p h ds x = (
  (λ e. subst (Tells K s p h ds) e (says_so K s p h ds _ _ _ _ _ _ _ _ (tested K s p h ds))),
  λ t. is_said K s p h ds _ _ _ _ _ _ _ _ (tested K s p h ds) x t,
)
