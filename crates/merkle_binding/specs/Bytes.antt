-- The code's digests as bytes, and the texts that SHA-256 hashes for them. Assumes nothing.
use Rattle.std.specs.Prelude.{List, map}
use Rattle.sha256.specs.Standard.{digest}
use Rattle.merkle_theory.specs.Bytes.{Bytes, texts, over_leaves}
use Rattle.merkle_theory.specs.Carried.{Carries}
use Rattle.merkle_theory.specs.Digests.{Long}
use Rattle.merkle_theory.specs.Texts.{Texts}
use Rattle.merkle.specs.declared.digest.Digest.{Digest}
use Rattle.merkle.specs.Digests.{leaves}

-- the bytes of a digest, and of each in a list
abbrev pub bytes_of : Digest → Bytes
bytes_of d = d.bytes

abbrev pub all_bytes : List Digest → List Bytes
all_bytes ds = map bytes_of ds

-- it has 32 bytes, as every digest that the code holds
abbrev pub Sized : Digest → Type 0
Sized d = Long d.bytes

-- the texts of entries and of nodes, hashed by SHA-256
abbrev pub by_sha256 : Texts Bytes Bytes Bytes
by_sha256 = texts digest

-- SHA-256 is one of the hashes whose results have 32 bytes
abbrev pub Sha256Long : Type 0
Sha256Long = (s : Bytes) → Long (digest s)

-- the bytes of the code's roots and proofs are the roots and proofs over bytes
abbrev pub BytesCarry : Type 0
BytesCarry = Carries leaves (over_leaves digest) bytes_of bytes_of
