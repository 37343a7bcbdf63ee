-- Certificates one after the other, each told from the next by the length of its name. Assumes nothing.
use Rattle.std.specs.Prelude.{◌≡◌, ℕ, zero, suc, ◌+◌, ◌≤◌, List, [], ◌∷◌, ◌++◌, length, take, drop, slice_index, slice_index_or}
use Rattle.model.specs.Objects.{Certificate}
use Rattle.wire_theory.specs.Bytes.{Bytes, number, part}
use Rattle.wire_theory.specs.Messages.{FitsCertificate, certificate_bytes}
use Rattle.wire_theory.specs.Shapes.{CertificateShape}

-- how long the certificate is that the bytes begin with
abbrev pub first_long : Bytes → ℕ
first_long s = 115 + slice_index s 2

-- the certificate that the bytes begin with
abbrev pub certificate_in : Bytes → Certificate
certificate_in s =
    let n = slice_index_or s 2 0 in
    record {
      issuer = slice_index s 1;
      name = part 3 n s;
      key = part (3 + n) 32 s;
      serial = number (part (35 + n) 8 s);
      expiry = number (part (43 + n) 8 s);
      seal = part (51 + n) 64 s;
    }

-- all certificates, up to a number of them
unfoldable pub certificates_in : ℕ → Bytes → List Certificate
certificates_in zero s = []
certificates_in (suc most) [] = []
certificates_in (suc most) (b ∷ s) = certificate_in (b ∷ s) ∷ certificates_in most (drop (first_long (b ∷ s)) (b ∷ s))

-- the bytes begin with a certificate
abbrev pub Begins : Bytes → Type 0
Begins s = (c : Certificate) × (t : Bytes) × FitsCertificate c × (s ≡ certificate_bytes c ++ t)

abbrev pub FirstShape : Bytes → Type 0
FirstShape s = (first_long s ≤ length s) × CertificateShape (take (first_long s) s)
