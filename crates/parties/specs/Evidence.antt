-- What convicts a log before anybody: a promise, a head as late as it is due, and the digests of all entries below the head, without the promised one. Assumes nothing.
use Rattle.std.specs.Prelude.{ℕ, ◌+◌, Bool, not, ◌&&◌, List, [], ◌∷◌, length, Some, None, Option, ◌==◌, nat_le}
use Rattle.wire_theory.specs.Bytes.{Bytes}
use Rattle.wire_theory.specs.Messages.{SignedSct, SignedHead, Settings}
use Rattle.parties.specs.Coding.{Coding, same_bytes, has, root_of, right_sct, right_head}
use Rattle.parties.specs.Steps.{◌⇒◌, first_fault, too_large}

-- it convicts; it is refused, by a number; or a part of it isn't so: (1) both are of one log, (2) the head is late enough, (3) the digest isn't among them, (4) they give the root
pub data Verdict : Type 0 where
  Convicts : Verdict
  Refused : ℕ → Verdict
  NotSo : ℕ → Verdict

abbrev pub is_late : Settings → SignedSct → SignedHead → Bool
is_late s p h = nat_le (p.at + s.mmd) h.at

abbrev pub gives_root : Coding → List Bytes → SignedHead → Bool
gives_root K ds h = length ds == h.count && same_bytes (root_of K ds) h.root

abbrev pub or_so : Option ℕ → (ℕ → Verdict) → Verdict → Verdict
or_so None wrap next = next
or_so (Some n) wrap next = wrap n

abbrev pub judge : Coding → Settings → SignedSct → SignedHead → List Bytes → Verdict
judge K s p h ds =
    or_so (first_fault (not (K.knows_log p.log && K.knows_log h.log) ⇒ 2 ∷ (not (right_sct K p && right_head K h) ⇒ 3 ∷ []))) Refused
    (or_so (first_fault (not (p.log == h.log) ⇒ 1 ∷ (not (is_late s p h) ⇒ 2 ∷ (has p.digest ds ⇒ 3 ∷ (not (gives_root K ds h) ⇒ 4 ∷ []))))) NotSo
    (or_so (first_fault (too_large p.at ⇒ 14 ∷ (too_large h.at ⇒ 14 ∷ []))) Refused Convicts))
