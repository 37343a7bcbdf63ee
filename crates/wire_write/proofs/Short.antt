-- Rows that are short enough, and those that are not. Assumes nothing.
use Rattle.std.proofs.Common.{◌≡◌, ℕ, ◌*◌, ◌/◌, ◌^◌, ◌<◌, ◌≤◌, Bool, true, false, length, Option, MatchOption, refl, ap, subst, arith}
use Rattle.std.specs.Bool.{Decides, MatchBool, then_some}
use Rattle.wire_theory.specs.Bytes.{Bytes, numbers, row_of}
use Rattle.wire_theory.specs.Messages.{SignedList, FitsList, FitsPath, FitDigests}
use Rattle.wire_theory.proofs.Rows.{digests_fit, numbers_at, numbers_long, rows_long}
use Rattle.wire.specs.Reading.{RisingRow}
use Rattle.wire.specs.Sound.{Whole}
use Rattle.wire.specs.declared.list.RevocationList.{RevocationList}
use Rattle.wire.specs.declared.message.Message.{Message}
use Rattle.wire.specs.declared.message.Message.TheVariants as message
use Rattle.wire_write.specs.Ready.{Ready}

pub list_fits : (l : SignedList) (s : Bytes) → l.authority < 256 → l.at < 2 ^ 64 → l.serials ≡ numbers 8 s → length s ≤ 8192 → RisingRow s → length l.seal ≡ 64 → FitsList l
list_fits l s authority at same few row seal = record {
  authority = authority;
  at = at;
  few = omega (arith, ap length same, numbers_long s);
  serials = λ k h. let below : k < length s / 8 = omega (arith, ap length same, numbers_long s) in rw (same, numbers_at s k below) (row.1.small k below);
  rising = rw same row.1.rising;
  seal = seal;
}

pub too_many_serials : (l : SignedList) (s : Bytes) → l.serials ≡ numbers 8 s → 8192 < length s → Whole 8 s → FitsList l → ⊥
too_many_serials l s same many whole fits = omega (arith, ap length same, numbers_long s, fits.few)

pub path-fits : (s : Bytes) → Whole 32 s → length s ≤ 8160 → FitsPath (row_of 32 s)
path-fits s whole few = (omega (arith, rows_long 32 s), digests_fit (length s / 32) s (omega arith))

pub too_many_digests : (s : Bytes) → 8160 < length s → Whole 32 s → FitsPath (row_of 32 s) → ⊥
too_many_digests s many whole fits = omega (arith, rows_long 32 s, fits.0)

pub all_digests : (s : Bytes) (n : ℕ) → length s ≡ 32 * n → (length (row_of 32 s) ≡ n) × FitDigests (row_of 32 s)
all_digests s n long = (omega (arith, rows_long 32 s), digests_fit n s long)

pub list_ready : (m : Message) (l : RevocationList) → m ≡ message.RevocationList l → Ready m → RisingRow l.serials.bytes.now × (length l.serials.bytes.now ≤ 8192)
list_ready m l is ready =
    let r : Ready (message.RevocationList l) = subst Ready is ready in
    (r.copied, omega (arith, numbers_long l.serials.bytes.now, r.fits.few, r.sound))

-- a value that is given where a test holds
pub given_where : {A P Q N : Type 0} (S : A → Type 0) (b : Bool) {x : A} {r : Option A} → MatchBool b P Q → r ≡ then_some b x → (P → S x) → (Q → N) → MatchOption r N S
given_where S true p e given left = rw e (given p)
given_where S false q e given left = rw e (left q)

pub decided : {P : Type 0} (b : Bool) → Decides b P → MatchBool b P (P → ⊥)
decided true d = d.0 refl
decided false d = λ p. cc (d.1 p)
