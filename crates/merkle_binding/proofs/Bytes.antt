-- The code's tree over digests is carried to the tree over bytes, and nothing is lost on the way.
use Rattle.std.proofs.Common.{◌≡◌, ℕ, ◌<◌, true, List, map, length, take, sym, refl, ap, ◌∙◌, arith}
use mathlib.Core.List.{map-map}
use lib.ListN.{length-map}
use Rattle.std.specs.Option.{option_map}
use Rattle.std.specs.List.{AllByRecursion}
use Rattle.std.proofs.ByRecursion.{All-map}
use Rattle.std.proofs.lemmas.List.{map-id, get_or-map, take-map}
use Rattle.sha256.specs.Standard.{digest}
use Rattle.sha256.proofs.Digests.{digest_long}
use Rattle.merkle_theory.specs.Bytes.{Bytes, texts, over_leaves}
use Rattle.merkle_theory.specs.Carried.{on_roots}
use Rattle.merkle_theory.specs.Claims.{Stands, Begins}
use Rattle.merkle_theory.specs.Digests.{Long, OfHashes}
use Rattle.merkle_theory.specs.Tree.{PathLeads, ConsistencyLeads}
use Rattle.merkle_theory.proofs.Carried.{carries}
use Rattle.merkle_theory.proofs.Digests.{bytes_lawful}
use Rattle.merkle_theory.proofs.RootTells.{Lawful}
use Rattle.merkle.specs.declared.digest.Digest.{Digest}
use Rattle.merkle.specs.Digests.{node_of, leaves}
use Rattle.merkle_binding.specs.Bytes.{bytes_of, all_bytes, Sized, by_sha256, Sha256Long, BytesCarry}

pub sha256_long : Sha256Long
sha256_long = digest_long

-- what holds of every hash whose results have 32 bytes holds of SHA-256
pub of_sha256 : (P : (Bytes → Bytes) → Type 0) → OfHashes P → P digest
of_sha256 P holds = holds digest sha256_long

pub sha256_lawful : Lawful by_sha256 Long
sha256_lawful = of_sha256 (λ hash. Lawful (texts hash) Long) bytes_lawful

pub bytes_carry : BytesCarry
bytes_carry = carries leaves (over_leaves digest) bytes_of bytes_of (record { of_none = refl; of_leaf = λ d. refl; of_node = λ a b. refl })

-- digests with the same bytes are the same
pub same_digest : {c d : Digest} → c.bytes ≡ d.bytes → c ≡ d
same_digest e i = record { bytes = e i }

of_bytes : Bytes → Digest
of_bytes s = record { bytes = s }

back_from_bytes : (ds : List Digest) → map of_bytes (all_bytes ds) ≡ ds
unfolding of_bytes
back_from_bytes ds = map-map of_bytes bytes_of ds ∙ map-id ds

pub same_digests : (cs ds : List Digest) → all_bytes cs ≡ all_bytes ds → cs ≡ ds
same_digests cs ds e = sym (back_from_bytes cs) ∙ (ap (map of_bytes) e ∙ back_from_bytes ds)

pub all_long : (ds : List Digest) → AllByRecursion Sized ds → AllByRecursion Long (all_bytes ds)
all_long = All-map Long bytes_of

pub stands_by_bytes : (ds : List Digest) (m : ℕ) (d : Digest) → Stands (all_bytes ds) m d.bytes → Stands ds m d
stands_by_bytes ds m d (h, e) =
    let there : m < length ds = omega (arith, length-map ds bytes_of) in
    (there, λ z. same_digest (sym (get_or-map bytes_of ds m z z.bytes there) ∙ e z.bytes))

pub begins_by_bytes : (cs ds : List Digest) → Begins (all_bytes cs) (all_bytes ds) → Begins cs ds
begins_by_bytes cs ds e =
    same_digests cs (take (length cs) ds) (e ∙ (ap (λ n. take n (all_bytes ds)) (length-map cs bytes_of) ∙ take-map bytes_of (length cs) ds))

pub path-leads_by_bytes : (n m : ℕ) (d : Digest) (ps : List Digest) (r : Digest) → PathLeads node_of n m d ps r →
    PathLeads (over_leaves digest).node n m d.bytes (all_bytes ps) r.bytes
path-leads_by_bytes n m d ps r leads = bytes_carry.paths_lead n m d ps ∙ ap (option_map bytes_of) leads

pub consistency-leads_by_bytes : (m n : ℕ) (e l : Digest) (ps : List Digest) → ConsistencyLeads node_of m n e l ps →
    ConsistencyLeads (over_leaves digest).node m n e.bytes l.bytes (all_bytes ps)
consistency-leads_by_bytes m n e l ps leads = bytes_carry.consistencies_lead m n true e ps ∙ ap (option_map (on_roots bytes_of)) leads
