-- What is signed tells all that is signed. Assumes nothing.
use Rattle.std.proofs.Common.{◌≡◌, ℕ, ◌^◌, ◌<◌, ◌++◌, length, get_or, drop, replicate, sym, refl, ap, ◌∙◌, arith}
use Rattle.std.proofs.lemmas.List.{length-append}
use Rattle.model.specs.Objects.{Certificate}
use Rattle.wire_theory.specs.Bytes.{Bytes}
use Rattle.wire_theory.specs.Claims.{Signing, certified, promised, headed, listed, revoked, signed_text, FitsSigning, bare, SignedApart}
use Rattle.wire_theory.specs.Decode.{sct_in, head_in, list_in}
use Rattle.wire_theory.specs.Entries.{certificate_in}
use Rattle.wire_theory.specs.Messages.{SignedSct, SignedHead, SignedList, signed_certificate, signed_sct, signed_head, signed_list, signed_revoke, FitsCertificate, FitsSct, FitsHead, FitsList}
use Rattle.wire_theory.proofs.Numbers.{length-big, big_same}
use Rattle.wire_theory.proofs.Decoded.{certificate_read, sct_read, head_read, list_read}

-- the first byte tells the kind
certificate_first : (c : Certificate) → get_or (signed_certificate c) 0 0 ≡ 1
unfolding signed_certificate
certificate_first c = refl

sct_first : (p : SignedSct) → get_or (signed_sct p) 0 0 ≡ 2
unfolding signed_sct
sct_first p = refl

head_first : (h : SignedHead) → get_or (signed_head h) 0 0 ≡ 3
unfolding signed_head
head_first h = refl

list_first : (l : SignedList) → get_or (signed_list l) 0 0 ≡ 4
unfolding signed_list
list_first l = refl

-- a revocation's first byte is any authority's number, but its text is shorter than all others
revoke_long : (authority serial : ℕ) → length (signed_revoke authority serial) ≡ 10
unfolding signed_revoke
revoke_long authority serial = simp length-big

certificate_longer : (c : Certificate) → FitsCertificate c → 10 < length (signed_certificate c)
unfolding signed_certificate
certificate_longer c f = simp (length-append, length-big) (omega (arith, f.key))

sct_longer : (p : SignedSct) → FitsSct p → 10 < length (signed_sct p)
unfolding signed_sct
sct_longer p f = simp (length-append, length-big) (omega (arith, f.digest))

head_longer : (h : SignedHead) → FitsHead h → 10 < length (signed_head h)
unfolding signed_head
head_longer h f = simp (length-append, length-big) (omega (arith, f.root))

list_longer : (l : SignedList) → 10 < length (signed_list l)
unfolding signed_list
list_longer l = simp (length-append, length-big) (omega arith)

longer : (x : Signing) → FitsSigning x → (authority serial : ℕ) → 10 < length (signed_text x) → signed_text x ≡ signed_revoke authority serial → ⊥
longer x f authority serial l e = omega (arith, ap length e, revoke_long authority serial)

other_kind : (s t : Bytes) (i j : ℕ) → get_or s 0 0 ≡ i → get_or t 0 0 ≡ j → i < j → s ≡ t → ⊥
other_kind s t i j a b l e = omega (arith, ap (λ x. get_or x 0 0) e)

-- ---- of one kind

certificate_same : (c d : Certificate) → FitsCertificate c → FitsCertificate d → signed_certificate c ≡ signed_certificate d → bare (certified c) ≡ bare (certified d)
unfolding signed_certificate
certificate_same c d f g e =
    let c0 : Certificate = record { issuer = c.issuer; name = c.name; key = c.key; serial = c.serial; expiry = c.expiry; seal = replicate 64 0 } in
    let d0 : Certificate = record { issuer = d.issuer; name = d.name; key = d.key; serial = d.serial; expiry = d.expiry; seal = replicate 64 0 } in
    let f0 : FitsCertificate c0 = record { issuer = f.issuer; name = f.name; key = f.key; serial = f.serial; expiry = f.expiry; seal = refl } in
    let g0 : FitsCertificate d0 = record { issuer = g.issuer; name = g.name; key = g.key; serial = g.serial; expiry = g.expiry; seal = refl } in
    ap certified (sym (certificate_read c0 f0) ∙ ap (λ s. certificate_in (s ++ replicate 64 0)) e ∙ certificate_read d0 g0)

sct_same : (p q : SignedSct) → FitsSct p → FitsSct q → signed_sct p ≡ signed_sct q → bare (promised p) ≡ bare (promised q)
unfolding signed_sct
sct_same p q f g e =
    let p0 : SignedSct = record { log = p.log; digest = p.digest; at = p.at; seal = replicate 64 0 } in
    let q0 : SignedSct = record { log = q.log; digest = q.digest; at = q.at; seal = replicate 64 0 } in
    let f0 : FitsSct p0 = record { log = f.log; digest = f.digest; at = f.at; seal = refl } in
    let g0 : FitsSct q0 = record { log = g.log; digest = g.digest; at = g.at; seal = refl } in
    ap promised (sym (sct_read p0 f0) ∙ ap (λ s. sct_in (s ++ replicate 64 0)) e ∙ sct_read q0 g0)

head_same : (h k : SignedHead) → FitsHead h → FitsHead k → signed_head h ≡ signed_head k → bare (headed h) ≡ bare (headed k)
unfolding signed_head
head_same h k f g e =
    let h0 : SignedHead = record { log = h.log; at = h.at; count = h.count; root = h.root; seal = replicate 64 0 } in
    let k0 : SignedHead = record { log = k.log; at = k.at; count = k.count; root = k.root; seal = replicate 64 0 } in
    let f0 : FitsHead h0 = record { log = f.log; at = f.at; count = f.count; root = f.root; seal = refl } in
    let g0 : FitsHead k0 = record { log = g.log; at = g.at; count = g.count; root = g.root; seal = refl } in
    ap headed (sym (head_read h0 f0) ∙ ap (λ s. head_in (s ++ replicate 64 0)) e ∙ head_read k0 g0)

list_same : (l m : SignedList) → FitsList l → FitsList m → signed_list l ≡ signed_list m → bare (listed l) ≡ bare (listed m)
unfolding signed_list
list_same l m f g e =
    let l0 : SignedList = record { authority = l.authority; at = l.at; serials = l.serials; seal = replicate 64 0 } in
    let m0 : SignedList = record { authority = m.authority; at = m.at; serials = m.serials; seal = replicate 64 0 } in
    let f0 : FitsList l0 = record { authority = f.authority; at = f.at; few = f.few; serials = f.serials; rising = f.rising; seal = refl } in
    let g0 : FitsList m0 = record { authority = g.authority; at = g.at; few = g.few; serials = g.serials; rising = g.rising; seal = refl } in
    ap listed (sym (list_read l0 f0) ∙ ap (λ s. list_in (s ++ replicate 64 0)) e ∙ list_read m0 g0)

revoke_same : (a b m n : ℕ) → m < 2 ^ 64 → n < 2 ^ 64 → signed_revoke a m ≡ signed_revoke b n → revoked a m ≡ revoked b n
unfolding signed_revoke
revoke_same a b m n f g e =
    let authority : a ≡ b = ap (λ s. get_or s 0 0) e in
    let serial : m ≡ n = big_same 8 m n f g (ap (drop 2) e) in
    λ i. revoked (authority i) (serial i)

pub signed_apart : SignedApart
signed_apart (certified c) (certified d) f g e = certificate_same c d f g e
signed_apart (certified c) (promised q) f g e = absurd (other_kind (signed_certificate c) (signed_sct q) 1 2 (certificate_first c) (sct_first q) (omega arith) e)
signed_apart (certified c) (headed k) f g e = absurd (other_kind (signed_certificate c) (signed_head k) 1 3 (certificate_first c) (head_first k) (omega arith) e)
signed_apart (certified c) (listed m) f g e = absurd (other_kind (signed_certificate c) (signed_list m) 1 4 (certificate_first c) (list_first m) (omega arith) e)
signed_apart (certified c) (revoked b n) f g e = absurd (longer (certified c) f b n (certificate_longer c f) e)
signed_apart (promised p) (certified d) f g e = absurd (other_kind (signed_certificate d) (signed_sct p) 1 2 (certificate_first d) (sct_first p) (omega arith) (sym e))
signed_apart (promised p) (promised q) f g e = sct_same p q f g e
signed_apart (promised p) (headed k) f g e = absurd (other_kind (signed_sct p) (signed_head k) 2 3 (sct_first p) (head_first k) (omega arith) e)
signed_apart (promised p) (listed m) f g e = absurd (other_kind (signed_sct p) (signed_list m) 2 4 (sct_first p) (list_first m) (omega arith) e)
signed_apart (promised p) (revoked b n) f g e = absurd (longer (promised p) f b n (sct_longer p f) e)
signed_apart (headed h) (certified d) f g e = absurd (other_kind (signed_certificate d) (signed_head h) 1 3 (certificate_first d) (head_first h) (omega arith) (sym e))
signed_apart (headed h) (promised q) f g e = absurd (other_kind (signed_sct q) (signed_head h) 2 3 (sct_first q) (head_first h) (omega arith) (sym e))
signed_apart (headed h) (headed k) f g e = head_same h k f g e
signed_apart (headed h) (listed m) f g e = absurd (other_kind (signed_head h) (signed_list m) 3 4 (head_first h) (list_first m) (omega arith) e)
signed_apart (headed h) (revoked b n) f g e = absurd (longer (headed h) f b n (head_longer h f) e)
signed_apart (listed l) (certified d) f g e = absurd (other_kind (signed_certificate d) (signed_list l) 1 4 (certificate_first d) (list_first l) (omega arith) (sym e))
signed_apart (listed l) (promised q) f g e = absurd (other_kind (signed_sct q) (signed_list l) 2 4 (sct_first q) (list_first l) (omega arith) (sym e))
signed_apart (listed l) (headed k) f g e = absurd (other_kind (signed_head k) (signed_list l) 3 4 (head_first k) (list_first l) (omega arith) (sym e))
signed_apart (listed l) (listed m) f g e = list_same l m f g e
signed_apart (listed l) (revoked b n) f g e = absurd (longer (listed l) f b n (list_longer l) e)
signed_apart (revoked a m) (certified d) f g e = absurd (longer (certified d) g a m (certificate_longer d g) (sym e))
signed_apart (revoked a m) (promised q) f g e = absurd (longer (promised q) g a m (sct_longer q g) (sym e))
signed_apart (revoked a m) (headed k) f g e = absurd (longer (headed k) g a m (head_longer k g) (sym e))
signed_apart (revoked a m) (listed l) f g e = absurd (longer (listed l) g a m (list_longer l) (sym e))
signed_apart (revoked a m) (revoked b n) f g e = revoke_same a b m n f g e
