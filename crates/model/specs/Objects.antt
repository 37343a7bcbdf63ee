-- What authorities and logs sign, what owners publish, and what relying parties keep. Assumes nothing.
use Rattle.std.specs.Prelude.{ℕ, List}

-- what an authority signs: that a key belongs to a name.
-- seal: the bytes of its signature; two certificates that differ only there are two, and have two digests
pub record Certificate : Type 0 where
  pub issuer : ℕ
  pub name : List ℕ
  pub key : List ℕ
  pub serial : ℕ
  -- the last tick at which it is good
  pub expiry : ℕ
  pub seal : List ℕ

-- what the owner of a name asks for: a certificate with this key
pub record Wish : Type 0 where
  pub name : List ℕ
  pub key : List ℕ

-- an order that an authority got, from whomever, with the challenge that it drew for it
pub record Order : Type 0 where
  pub authority : ℕ
  pub name : List ℕ
  pub key : List ℕ
  pub serial : ℕ
  pub nonce : List ℕ

-- what the owner of a name publishes there: the response to a challenge, for its key. It names no authority, and challenges are not signed
pub record Response : Type 0 where
  pub name : List ℕ
  pub key : List ℕ
  pub serial : ℕ
  pub nonce : List ℕ

-- a log's promise that a certificate is among its entries once the maximum merge delay is over
pub record Sct : Type 0 where
  pub log : ℕ
  pub certificate : Certificate
  pub at : ℕ

-- all entries of a log at a tick, oldest first
pub record TreeHead : Type 0 where
  pub log : ℕ
  pub at : ℕ
  pub entries : List Certificate

-- the serials that an authority says, at a tick, are revoked
pub record RevocationList : Type 0 where
  pub authority : ℕ
  pub at : ℕ
  pub serials : List ℕ

-- whatever authorities and logs sign
pub data Signed : Type 0 where
  Issued : Certificate → Signed
  Promised : Sct → Signed
  Headed : TreeHead → Signed
  Listed : RevocationList → Signed

-- an authority revoked a serial at a tick
pub record Revocation : Type 0 where
  pub authority : ℕ
  pub serial : ℕ
  pub at : ℕ

-- what a relying party accepted, by which two promises and which revocation list, and when
pub record Acceptance : Type 0 where
  pub certificate : Certificate
  pub first : Sct
  pub second : Sct
  pub list : RevocationList
  pub at : ℕ
