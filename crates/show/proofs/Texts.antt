-- Texts made of one part for each element. Assumes nothing.
use Rattle.std.proofs.Common.{◌≡◌, ℕ, ◌+◌, ◌*◌, ◌<◌, false, eqb, ne_eqb, Some, List, [], ◌∷◌, ◌++◌, length, get_or, codes, sym, refl, ap, ◌∙◌, append_assoc, arith, below_more}
use Rattle.std.proofs.lemmas.List.{length_push, get_or_push, get_or_append_left}
use Rattle.script.specs.Texts.{Pair}
use Rattle.script.proofs.Hexes.{pair_written}
use Rattle.wire.specs.declared.refusal.Refusal.{Refusal}
use Rattle.wire.specs.declared.refusal.Refusal.TheVariants as refusal
use Rattle.wire.specs.declared.refusal.Part.TheVariants as part
use Rattle.wire.specs.Refusals.{refusal_number}
use Rattle.model.specs.Objects.{Certificate}
use Rattle.show.specs.Words.{cause_of, certificate_text, listed_certificates}

-- one certificate more, on a line of its own
pub one_line_more : (cs ds : List Certificate) (c : Certificate) (text more whole : List ℕ) → cs ≡ c ∷ ds → text ++ listed_certificates cs ≡ whole →
    more ≡ text ++ (10 ∷ certificate_text c) → more ++ listed_certificates ds ≡ whole
one_line_more cs ds c text more whole split so_far pushed =
    ap (λ t. t ++ listed_certificates ds) pushed ∙ append_assoc text (10 ∷ certificate_text c) (listed_certificates ds) ∙ ap (λ xs. text ++ listed_certificates xs) (sym split) ∙ so_far

-- one byte more, by its two digits
pub pair_pushed : (word bytes more pair : List ℕ) (i b : ℕ) → length bytes ≡ i → ((k : ℕ) → k < i → Pair word bytes k) →
    (get_or pair 0 0 ≡ get_or word (2 * i) 0) × (get_or pair 1 0 ≡ get_or word (2 * i + 1) 0) → Pair pair (b ∷ []) 0 → more ≡ bytes ++ (b ∷ []) →
    (length more ≡ i + 1) × ((k : ℕ) → k < i + 1 → Pair word more k)
pair_pushed word bytes more pair i b long below at read e = (
  ap length e ∙ length_push bytes b ∙ ap (λ n. n + 1) long,
  below_more (Pair word more) i
      (λ k lt.
      let old = below k lt in
      record { high = old.high; low = old.low; byte = ap (λ xs. get_or xs k 0) e ∙ get_or_append_left bytes _ 0 k (omega arith) ∙ old.byte })
      (pair_written word pair more i b at read (ap (λ xs. get_or xs i 0) e ∙ get_or_push bytes b 0 i long)),
)

-- no cause has the number of no refusal
pub no_cause : (n : ℕ) → ((f : Refusal) → refusal_number f ≡ Some n → ⊥) → cause_of n ≡ codes "no cause has this number"
no_cause n none =
    rw (
      apart 1 refusal.Unreadable refl,
      apart 2 refusal.NotThere refl,
      apart 3 refusal.WrongSignature refl,
      apart 4 refusal.NotPublished refl,
      apart 5 refusal.OldHead refl,
      apart 6 refusal.LeadsElsewhere refl,
      apart 7 refusal.OtherRoot refl,
      apart 8 refusal.OtherPromise refl,
      apart 9 refusal.Expired refl,
      apart 10 refusal.NoFreshList refl,
      apart 11 refusal.Revoked refl,
      apart 12 refusal.Full refl,
      apart 13 (refusal.DoesNotConvict part.OneLog) refl,
      apart 14 refusal.UsedUp refl,
    ) refl
  where
    apart : (m : ℕ) (f : Refusal) → refusal_number f ≡ Some m → eqb n m ≡ false
    apart m f e = ne_eqb n m (λ same. none f (e ∙ ap Some (sym same)))
