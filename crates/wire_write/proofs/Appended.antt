-- What stands in a vector after one part was appended behind the other. Assumes nothing.
use Rattle.std.proofs.Common.{◌≡◌, ℕ, ◌*◌, ◌/◌, List, ◌∷◌, ◌++◌, length, vec_items, Vec, sym, ap, ◌∙◌, append_assoc, arith}
use Rattle.std.specs.declared.alloc.Global.{Global}
use Rattle.std.specs.List.{flat_map}
use Rattle.wire_theory.specs.Bytes.{Bytes, big, numbers, row_of}
use Rattle.wire_theory.specs.Messages.{SignedList, signed_list, row}
use Rattle.wire_theory.proofs.Rows.{length-numbers, numbers_joined, row_is}
use Rattle.wire.specs.Reading.{RisingRow}
use Rattle.wire.specs.Sound.{Whole}
use Rattle.wire_write.specs.Grows.{Grows}

-- two parts, one behind the other
pub and_then : {a b c : Vec ℕ Global} {x y : List ℕ} → Grows a b x → Grows b c y → Grows a c (x ++ y)
and_then {a} {b} {c} {x} {y} first second = record {
  items = second.items ∙ ap (λ t. t ++ y) first.items ∙ append_assoc (vec_items a) x y;
  room = omega (arith, first.room, second.room);
}

-- a part that is written otherwise
pub as_well : {a b : Vec ℕ Global} {x y : List ℕ} → x ≡ y → Grows a b x → Grows a b y
as_well {a} {b} {x} {y} same appended = record { items = appended.items ∙ ap (λ t. vec_items a ++ t) same; room = appended.room }

-- a list whose serials are copied as they stand
pub list_copied : (l : SignedList) (s count : Bytes) → l.serials ≡ numbers 8 s → RisingRow s → count ≡ big 2 (length s / 8) → 4 ∷ (l.authority ∷ (big 8 l.at ++ (count ++ s))) ≡ signed_list l
unfolding signed_list
list_copied l s count same row is-count =
    let long : length s ≡ 8 * (length s / 8) = omega (arith, row.0) in
    let few : count ≡ big 2 (length l.serials) = is-count ∙ ap (big 2) (sym (ap length same ∙ length-numbers (length s / 8) s long)) in
    let all : s ≡ flat_map (big 8) l.serials = sym (ap (flat_map (big 8)) same ∙ numbers_joined (length s / 8) s long row.1.each) in
    λ i. 4 ∷ (l.authority ∷ (big 8 l.at ++ (few i ++ all i)))

-- digests that are copied as they stand
pub digests_copied : (s : Bytes) → Whole 32 s → s ≡ row (row_of 32 s)
digests_copied s whole = sym (row_is 32 (length s / 32) s (omega arith) (omega arith))
