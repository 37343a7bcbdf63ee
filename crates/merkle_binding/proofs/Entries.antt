-- A list of entries and the row of its leaf digests have the same root and proofs, and these tell the entries.
use Rattle.std.proofs.Common.{◌≡◌, ◌⊎◌, List, ◌++◌, map, length, Some, sym, refl, ap, ◌∙◌, inl}
use mathlib.Core.Path.{transport}
use mathlib.Core.List.{map-map}
use Rattle.std.proofs.lemmas.List.{map-id}
use Rattle.sha256.specs.Standard.{digest}
use Rattle.merkle_theory.specs.Bytes.{Bytes, over_entries, over_leaves}
use Rattle.merkle_theory.specs.Carried.{Carries}
use Rattle.merkle_theory.specs.Claims.{Begins}
use Rattle.merkle_theory.specs.Digests.{Long, Agree}
use Rattle.merkle_theory.specs.Texts.{Collision, root_texts, consistency_texts}
use Rattle.merkle_theory.specs.Tree.{root, path, consistency, ConsistencyLeads}
use Rattle.merkle_theory.proofs.Carried.{carries}
use Rattle.merkle_theory.proofs.Digests.{entries_agree_with_leaves}
use Rattle.merkle_theory.proofs.RootTells.{with}
use Rattle.merkle_theory.proofs.Told.{root-told_of_entries, path-told_of_entries, consistency-told_of_entries}
use Rattle.merkle.specs.Digests.{leaf_of, entries, leaves}
use Rattle.merkle_binding.specs.Bytes.{bytes_of, all_bytes, by_sha256}
use Rattle.merkle_binding.specs.Entries.{row_of, RowAgrees, BytesAgree, RootTellsEntries, PathTellsEntry, ConsistencyTellsEntries}
use Rattle.merkle_binding.proofs.Bytes.{sha256_lawful, bytes_carry, same_digests, all_long, path-leads_by_bytes, consistency-leads_by_bytes}

leaf_carries : Carries entries leaves (λ d. d) leaf_of
leaf_carries = carries entries leaves (λ d. d) leaf_of (record { of_none = refl; of_leaf = λ x. refl; of_node = λ a b. refl })

pub row_agrees : RowAgrees
row_agrees = record {
  roots = leaf_carries.roots;
  paths = λ m xs. leaf_carries.paths m xs ∙ map-id (path entries m xs);
  consistencies = λ m ys. leaf_carries.consistencies m ys ∙ map-id (consistency entries m ys);
}

agree : Agree digest
agree = entries_agree_with_leaves digest

-- the bytes of the row are the leaf digests over bytes
row_bytes : (xs : List Bytes) → map (over_entries digest).leaf xs ≡ all_bytes (row_of xs)
row_bytes xs = sym (map-map bytes_of leaf_of xs)

pub bytes_agree : BytesAgree
bytes_agree = record {
  roots = λ xs. sym (agree.roots xs) ∙ (ap (root (over_leaves digest)) (row_bytes xs) ∙ bytes_carry.roots (row_of xs));
  paths = λ m xs. sym (agree.paths m xs) ∙ (ap (path (over_leaves digest) m) (row_bytes xs) ∙ bytes_carry.paths m (row_of xs));
  consistencies = λ m ys. sym (agree.consistencies m ys) ∙ (ap (consistency (over_leaves digest) m) (row_bytes ys) ∙ bytes_carry.consistencies m (row_of ys));
}

pub root-tells_entries : RootTellsEntries
root-tells_entries xs ys e =
    let same : (zs : List Bytes) → root (over_entries digest) zs ≡ (root entries zs).bytes = λ zs. bytes_agree.roots zs ∙ ap bytes_of (row_agrees.roots zs) in
    root-told_of_entries by_sha256 Long sha256_lawful xs ys (same xs ∙ (ap bytes_of e ∙ sym (same ys)))

pub path-tells_entry : PathTellsEntry
path-tells_entry xs m x ps sp leads =
    with
    (path-told_of_entries by_sha256 Long sha256_lawful xs m x (all_bytes ps) (all_long ps sp)
    (path-leads_by_bytes (length xs) m (leaf_of x) ps (root leaves (row_of xs)) leads ∙ ap Some (sym (bytes_agree.roots xs))))
    (λ (stands, is). inl (stands, same_digests ps (path leaves m (row_of xs)) (is ∙ bytes_agree.paths m xs)))

pub consistency-tells_entries : ConsistencyTellsEntries
consistency-tells_entries xs ys ps pos sp leads =
    let early = bytes_agree.roots xs in
    let late = bytes_agree.roots ys in
    with
    (transport
    (λ i.
    ConsistencyLeads (over_leaves digest).node (length xs) (length ys) (early i) (late i) (all_bytes ps) →
    (Begins xs ys × (all_bytes ps ≡ bytes_agree.consistencies (length xs) ys i)) ⊎
    Collision by_sha256 (root_texts by_sha256 xs ++ (root_texts by_sha256 ys ++ consistency_texts by_sha256 (length xs) (length ys) (early i) (all_bytes ps))))
    (consistency-told_of_entries by_sha256 Long sha256_lawful xs ys (all_bytes ps) pos (all_long ps sp))
    (consistency-leads_by_bytes (length xs) (length ys) (root leaves (row_of xs)) (root leaves (row_of ys)) ps leads))
    (λ (begins, is). inl (begins, same_digests ps (consistency leaves (length xs) (row_of ys)) is))
