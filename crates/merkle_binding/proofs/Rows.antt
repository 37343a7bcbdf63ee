-- Rows of leaf digests have proofs, and their roots and proofs tell them.
use Rattle.std.proofs.Common.{◌≡◌, ◌⊎◌, List, ◌++◌, length, sym, ap, ◌∙◌, inl, arith}
use mathlib.Core.Path.{transport}
use lib.ListN.{length-map}
use Rattle.sha256.specs.Standard.{digest}
use Rattle.merkle_theory.specs.Bytes.{Bytes, over_leaves}
use Rattle.merkle_theory.specs.Claims.{Stands, Begins}
use Rattle.merkle_theory.specs.Digests.{Long}
use Rattle.merkle_theory.specs.Texts.{Collision, row_texts, row_path_texts, consistency_texts}
use Rattle.merkle_theory.specs.Tree.{root, path, consistency, PathLeads, ConsistencyLeads}
use Rattle.merkle_theory.proofs.There.{path-there, consistency-there}
use Rattle.merkle_theory.proofs.RootTells.{with}
use Rattle.merkle_theory.proofs.Told.{root-told_of_rows, path-told_of_rows, consistency-told_of_rows}
use Rattle.merkle.specs.Digests.{leaves}
use Rattle.merkle_binding.specs.Bytes.{bytes_of, all_bytes, by_sha256}
use Rattle.merkle_binding.specs.Rows.{PathFromLeaf, ConsistencyFromRow, RootTellsRow, PathTellsLeaf, ConsistencyTellsRow}
use Rattle.merkle_binding.proofs.Bytes.{sha256_lawful, bytes_carry, same_digests, all_long, stands_by_bytes, begins_by_bytes, path-leads_by_bytes, consistency-leads_by_bytes}

pub path-from_leaf : PathFromLeaf
path-from_leaf = path-there leaves

pub consistency-from_row : ConsistencyFromRow
consistency-from_row = consistency-there leaves

pub root-tells_row : RootTellsRow
root-tells_row cs ds sc sd long e =
    with
    (root-told_of_rows by_sha256 Long sha256_lawful (all_bytes cs) (all_bytes ds) (all_long cs sc) (all_long ds sd)
    (length-map cs bytes_of ∙ (long ∙ sym (length-map ds bytes_of)))
    (bytes_carry.roots cs ∙ (ap bytes_of e ∙ sym (bytes_carry.roots ds))))
    (λ same. inl (same_digests cs ds same))

pub path-tells_leaf : PathTellsLeaf
path-tells_leaf ds m d ps sd s sp leads =
    let long = length-map ds bytes_of in
    let row : List Bytes = all_bytes ds in
    with
    (transport
    (λ i.
    PathLeads (over_leaves digest).node (long i) m d.bytes (all_bytes ps) (bytes_carry.roots ds i) →
    (Stands row m d.bytes × (all_bytes ps ≡ bytes_carry.paths m ds i)) ⊎
    Collision by_sha256 (row_texts by_sha256 row ++ row_path_texts by_sha256 (long i) m d.bytes (all_bytes ps)))
    (path-told_of_rows by_sha256 Long sha256_lawful row m d.bytes (all_bytes ps) (all_long ds sd) s (all_long ps sp))
    (path-leads_by_bytes (length ds) m d ps (root leaves ds) leads))
    (λ (stands, is). inl (stands_by_bytes ds m d stands, same_digests ps (path leaves m ds) is))

pub consistency-tells_row : ConsistencyTellsRow
consistency-tells_row cs ds ps pos sc sd sp leads =
    let long = length-map cs bytes_of in
    let longer = length-map ds bytes_of in
    let early : List Bytes = all_bytes cs in
    let late : List Bytes = all_bytes ds in
    with
    (transport
    (λ i.
    ConsistencyLeads (over_leaves digest).node (long i) (longer i) (bytes_carry.roots cs i) (bytes_carry.roots ds i) (all_bytes ps) →
    (Begins early late × (all_bytes ps ≡ consistency (over_leaves digest) (long i) late)) ⊎
    Collision by_sha256 (row_texts by_sha256 early ++ (row_texts by_sha256 late ++ consistency_texts by_sha256 (long i) (longer i) (bytes_carry.roots cs i) (all_bytes ps))))
    (consistency-told_of_rows by_sha256 Long sha256_lawful early late (all_bytes ps) (omega (arith, long)) (all_long cs sc) (all_long ds sd) (all_long ps sp))
    (consistency-leads_by_bytes (length cs) (length ds) (root leaves cs) (root leaves ds) ps leads))
    (λ (begins, is). inl (begins_by_bytes cs ds begins, same_digests ps (consistency leaves (length cs) ds) (is ∙ bytes_carry.consistencies (length cs) ds)))
