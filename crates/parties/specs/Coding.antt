-- How certificates, digests and signatures are made, for any hash and any scheme of signatures. Assumes nothing.
use Rattle.std.specs.Prelude.{ℕ, Bool, true, false, ◌||◌, List, [], ◌∷◌, map}
use mathlib.Core.List.{List-discrete}
use Rattle.std.proofs.Math.Decide.{ℕ_discrete}
use Rattle.merkle_theory.specs.Bytes.{texts, over_leaves}
use Rattle.merkle_theory.specs.Texts.{row_texts}
use Rattle.merkle_theory.specs.Tree.{root}
use Rattle.model.specs.Objects.{Certificate}
use Rattle.wire_theory.specs.Bytes.{Bytes}
use Rattle.wire_theory.specs.Messages.{SignedSct, SignedHead, SignedList}

pub record Coding : Type 0 where
  pub hash : Bytes → Bytes
  -- a certificate's bytes, from its kind to its signature
  pub text : Certificate → Bytes
  -- what is hashed for the response to a challenge: serial, nonce, key
  pub response_text : ℕ → Bytes → Bytes → Bytes
  -- whose keys are known
  pub knows_authority : ℕ → Bool
  pub knows_log : ℕ → Bool
  -- the one signature, by the authority or log that is named in it, of all but the seal
  pub seal_certificate : Certificate → Bytes
  pub seal_sct : SignedSct → Bytes
  pub seal_head : SignedHead → Bytes
  pub seal_list : SignedList → Bytes
  -- the one signature by a certificate's key, given last, that an authority's serial is to be revoked
  pub seal_revoke : ℕ → ℕ → Bytes → Bytes

-- Bytes compared, and looked up

abbrev pub told : {P : Type 0} → Dec P → Bool
told (yes p) = true
told (no n) = false

unfoldable pub same_bytes : Bytes → Bytes → Bool
same_bytes s t = told (List-discrete ℕ_discrete s t)

unfoldable pub has : Bytes → List Bytes → Bool
has d [] = false
has d (e ∷ es) = same_bytes d e || has d es

-- Digests

abbrev pub leaf_text : Coding → Certificate → Bytes
leaf_text K c = 0 ∷ K.text c

abbrev pub leaf_of : Coding → Certificate → Bytes
leaf_of K c = K.hash (leaf_text K c)

abbrev pub leaves_of : Coding → List Certificate → List Bytes
leaves_of K cs = map (leaf_of K) cs

-- the root of a row of leaf digests, and the texts that are hashed for it
abbrev pub root_of : Coding → List Bytes → Bytes
root_of K ds = root (over_leaves K.hash) ds

abbrev pub root_texts_of : Coding → List Bytes → List Bytes
root_texts_of K ds = row_texts (texts K.hash) ds

abbrev pub node_of : Coding → Bytes → Bytes → Bytes
node_of K = (over_leaves K.hash).node

-- Seals

abbrev pub right_certificate : Coding → Certificate → Bool
right_certificate K c = same_bytes c.seal (K.seal_certificate c)

abbrev pub right_sct : Coding → SignedSct → Bool
right_sct K p = same_bytes p.seal (K.seal_sct p)

abbrev pub right_head : Coding → SignedHead → Bool
right_head K h = same_bytes h.seal (K.seal_head h)

abbrev pub right_list : Coding → SignedList → Bool
right_list K b = same_bytes b.seal (K.seal_list b)
