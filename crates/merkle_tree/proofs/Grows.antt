-- A tree with leaves added.
use Rattle.std.proofs.Common.{◌≡◌, ℕ, suc, ◌+◌, ◌<◌, ◌≤◌, List, ◌++◌, length, take, drop, sym, ap, ◌∙◌, arith, length-drop}
use lib.Seq.{take-append-le, drop-append-le}
use Rattle.std.proofs.lemmas.List.{get_or_append_left}
use Rattle.merkle.specs.declared.digest.Digest.{Digest}
use Rattle.merkle_tree.specs.Layout.{root_of, blank, part, scaled, Kept}
use Rattle.merkle_tree.specs.Fill.{KeptTo}
use Rattle.merkle_tree.proofs.Scaled.{scaled_suc, scaled_pos, middle}
use Rattle.merkle_tree.proofs.Kept.{holds_is, is_holds}

part_under : (from size : ℕ) (ds es : List Digest) → from + size ≤ length ds → part from size (ds ++ es) ≡ part from size ds
part_under from size ds es h =
    ap (take size) (drop-append-le from ds es (omega arith))
    ∙ take-append-le size (drop from ds) es (omega (arith, length-drop from ds))

-- what was kept stays kept under leaves that are added
pub kept_under : (ds es ms fs : List Digest) → length ms ≡ length ds → Kept ds ms → KeptTo (ds ++ es) (ms ++ fs) (length ds)
kept_under ds es ms fs e kept k i h =
    let mid = scaled k (i + i + 1) in
    let size = scaled (suc k) 1 in
    let within : mid < length ms = omega (arith, middle k i, scaled_suc k i, scaled_pos k) in
    let ends : scaled (suc k) i + size ≤ length ds = omega (arith, scaled_suc k i) in
    is_holds (ds ++ es) (ms ++ fs) k i
    (get_or_append_left ms fs blank mid within
    ∙ (holds_is ds ms k i (kept k i (omega (arith, scaled_suc k i, scaled_pos k)))
    ∙ ap root_of (sym (part_under (scaled (suc k) i) size ds es ends))))

-- what filling asks for, where both rows have grown
pub grown : (ds ms row xs ys : List Digest) (count : ℕ) → xs ≡ ds ++ row → ys ≡ ms ++ row → length ms ≡ length ds → length ds ≡ count → Kept ds ms → KeptTo xs ys count
grown ds ms row xs ys count e f h c kept = rw (e, f, ← c) (kept_under ds row ms row h kept)
