-- An authority: orders, challenges, certificates, revocations and lists. Assumes nothing.
use Rattle.std.specs.Prelude.{ℕ, zero, suc, ◌+◌, ◌/◌, Bool, true, false, cond, not, ◌&&◌, List, [], ◌∷◌, ◌++◌, length, take, drop, Some, None, Option, nat_le, nat_lt}
use Rattle.model.specs.Objects.{Certificate}
use Rattle.wire_theory.specs.Bytes.{Bytes}
use Rattle.wire_theory.specs.Messages.{SignedList, Settings}
use Rattle.wire_theory.specs.Messages.Message.{certificate, list, challenge, refused}
use Rattle.parties.specs.Coding.{Coding, same_bytes}
use Rattle.parties.specs.Steps.{Step, Tick, answers, ◌⇒◌, unless, is_some, too_large}

-- one serial: the order that it was drawn for, with the nonce of its challenge; whether a certificate was issued to it; when it was revoked
pub record Account : Type 0 where
  pub name : Bytes
  pub key : Bytes
  pub nonce : Bytes
  pub issued : Bool
  pub revoked : Option ℕ

-- accounts: those of serials 1, 2, 3 and so on. supply: random bytes that are not used yet. listed: when it last signed a list
pub record AuthorityView : Type 0 where
  pub number : ℕ
  pub now : ℕ
  pub accounts : List Account
  pub supply : Bytes
  pub listed : Option ℕ

abbrev pub next_serial : AuthorityView → ℕ
next_serial v = suc (length v.accounts)

-- the account of a serial, and all accounts with another in its place
unfoldable pub account_of : ℕ → List Account → Option Account
account_of zero xs = None
account_of (suc i) [] = None
account_of (suc zero) (x ∷ xs) = Some x
account_of (suc (suc i)) (x ∷ xs) = account_of (suc i) xs

unfoldable pub with_account : ℕ → Account → List Account → List Account
with_account zero a xs = xs
with_account (suc i) a [] = []
with_account (suc zero) a (x ∷ xs) = a ∷ xs
with_account (suc (suc i)) a (x ∷ xs) = x ∷ with_account (suc i) a xs

abbrev pub with_accounts : List Account → AuthorityView → AuthorityView
with_accounts xs v = record { number = v.number; now = v.now; accounts = xs; supply = v.supply; listed = v.listed }

-- Orders

abbrev pub account_for : Bytes → Bytes → Bytes → Account
account_for name key nonce = record { name = name; key = key; nonce = nonce; issued = false; revoked = None }

-- the next serial and 16 bytes of the supply are drawn for an order
abbrev pub ordered : Bytes → Bytes → AuthorityView → AuthorityView
ordered name key v =
    record { number = v.number; now = v.now; accounts = v.accounts ++ (account_for name key (take 16 v.supply) ∷ []); supply = drop 16 v.supply; listed = v.listed }

abbrev pub on_order : Bytes → Bytes → AuthorityView → Step AuthorityView
on_order name key v = unless (nat_lt (length v.supply) 16 ⇒ 14 ∷ (too_large (next_serial v) ⇒ 14 ∷ [])) v
    (answers (ordered name key v) (challenge (next_serial v) (take 16 v.supply)))

-- Certificates

-- what stands at a name is the response to the challenge
abbrev pub is_response : Coding → ℕ → Account → Option Bytes → Bool
is_response K serial a None = false
is_response K serial a (Some found) = same_bytes found (K.hash (K.response_text serial a.nonce a.key))

abbrev pub unsealed : ℕ → ℕ → ℕ → Account → Certificate
unsealed number serial expiry a = record { issuer = number; name = a.name; key = a.key; serial = serial; expiry = expiry; seal = [] }

abbrev pub certificate_for : Coding → ℕ → ℕ → ℕ → Account → Certificate
certificate_for K number serial expiry a =
    record { issuer = number; name = a.name; key = a.key; serial = serial; expiry = expiry; seal = K.seal_certificate (unsealed number serial expiry a) }

abbrev pub issued_to : Account → Account
issued_to a = record { name = a.name; key = a.key; nonce = a.nonce; issued = true; revoked = a.revoked }

-- found: what stands at the name of the order
abbrev pub on_published_to : Coding → Settings → ℕ → Option Bytes → AuthorityView → Option Account → Step AuthorityView
on_published_to K s serial found v None = answers v (refused 2)
on_published_to K s serial found v (Some a) =
    unless (a.issued ⇒ 1 ∷ (not (is_response K serial a found) ⇒ 4 ∷ (is_some a.revoked ⇒ 11 ∷ (too_large (v.now + s.lifetime) ⇒ 14 ∷ [])))) v
    (answers (with_accounts (with_account serial (issued_to a) v.accounts) v) (certificate (certificate_for K v.number serial (v.now + s.lifetime) a)))

abbrev pub on_published : Coding → Settings → ℕ → Option Bytes → AuthorityView → Step AuthorityView
on_published K s serial found v = on_published_to K s serial found v (account_of serial v.accounts)

-- Lists

-- revoked, and no more than a lifetime ago
abbrev pub is_recent : ℕ → ℕ → Option ℕ → Bool
is_recent lifetime t None = false
is_recent lifetime t (Some at) = nat_le t (at + lifetime)

-- the serials that are listed at a tick, from a serial on
unfoldable pub listed_from : ℕ → ℕ → ℕ → List Account → List ℕ
listed_from lifetime t i [] = []
listed_from lifetime t i (a ∷ more) = cond (is_recent lifetime t a.revoked) (i ∷ listed_from lifetime t (suc i) more) (listed_from lifetime t (suc i) more)

abbrev pub serials_at : Settings → AuthorityView → List ℕ
serials_at s v = listed_from s.lifetime v.now 1 v.accounts

abbrev pub list_of : Coding → Settings → AuthorityView → SignedList
list_of K s v =
    let b : SignedList = record { authority = v.number; at = v.now; serials = serials_at s v; seal = [] } in
    record { authority = v.number; at = v.now; serials = serials_at s v; seal = K.seal_list b }

abbrev pub listing : AuthorityView → AuthorityView
listing v = record { number = v.number; now = v.now; accounts = v.accounts; supply = v.supply; listed = Some v.now }

abbrev pub on_get_list : Coding → Settings → AuthorityView → Step AuthorityView
on_get_list K s v = unless (too_large v.now ⇒ 14 ∷ []) v (answers (listing v) (list (list_of K s v)))

-- Revocation, answered by the list that has it

abbrev pub revoked_at : ℕ → Account → Account
revoked_at t a = record { name = a.name; key = a.key; nonce = a.nonce; issued = a.issued; revoked = Some t }

abbrev pub revoking : ℕ → Account → AuthorityView → AuthorityView
revoking serial a v = with_accounts (with_account serial (revoked_at v.now a) v.accounts) v

-- repeated it changes nothing; a list that is full takes no more
abbrev pub revokes : Coding → Settings → ℕ → Account → AuthorityView → Step AuthorityView
revokes K s serial a v = cond (is_some a.revoked) (on_get_list K s v)
    (unless (nat_le 1024 (length (serials_at s v)) ⇒ 12 ∷ (too_large v.now ⇒ 14 ∷ [])) v (on_get_list K s (revoking serial a v)))

-- when the owner says so, with the certificate's key
abbrev pub on_revoke_of : Coding → Settings → ℕ → Bytes → AuthorityView → Option Account → Step AuthorityView
on_revoke_of K s serial seal v None = answers v (refused 2)
on_revoke_of K s serial seal v (Some a) =
    unless (not a.issued ⇒ 2 ∷ (not (same_bytes seal (K.seal_revoke v.number serial a.key)) ⇒ 3 ∷ [])) v (revokes K s serial a v)

abbrev pub on_revoke : Coding → Settings → ℕ → Bytes → AuthorityView → Step AuthorityView
on_revoke K s serial seal v = on_revoke_of K s serial seal v (account_of serial v.accounts)

-- or by itself
abbrev pub withdraw_of : Coding → Settings → ℕ → AuthorityView → Option Account → Step AuthorityView
withdraw_of K s serial v None = answers v (refused 2)
withdraw_of K s serial v (Some a) = revokes K s serial a v

abbrev pub withdraw : Coding → Settings → ℕ → AuthorityView → Step AuthorityView
withdraw K s serial v = withdraw_of K s serial v (account_of serial v.accounts)

-- Time

abbrev pub arrived_at : ℕ → AuthorityView → AuthorityView
arrived_at t v = record { number = v.number; now = t; accounts = v.accounts; supply = v.supply; listed = v.listed }

-- half of freshness has gone by since the last list, or there was none
abbrev pub must_list : Settings → ℕ → Option ℕ → Bool
must_list s t None = true
must_list s t (Some at) = nat_le (at + s.freshness / 2) t

abbrev pub waits : Coding → Settings → AuthorityView → Tick AuthorityView
waits K s v = cond (must_list s v.now v.listed && not (too_large v.now))
    (record { view = listing v; sends = list (list_of K s v) ∷ [] }) (record { view = v; sends = [] })

abbrev pub on_tick : Coding → Settings → ℕ → AuthorityView → Tick AuthorityView
on_tick K s t v = cond (nat_lt t v.now) (record { view = v; sends = [] }) (waits K s (arrived_at t v))

abbrev pub new_authority : ℕ → Bytes → AuthorityView
new_authority number supply = record { number = number; now = 0; accounts = []; supply = supply; listed = None }
