-- Numbers, and rows of one width, as bytes: the high byte first. Assumes nothing.
use Rattle.std.specs.Prelude.{◌≡◌, ℕ, zero, suc, ◌+◌, ◌*◌, ◌/◌, ◌%◌, ◌^◌, ◌<◌, List, [], ◌∷◌, map, length, take, drop}

abbrev pub Bytes : Type 0
Bytes = List ℕ

-- n as w bytes
unfoldable pub big : ℕ → ℕ → Bytes
big zero n = []
big (suc w) n = (n / 256 ^ w % 256) ∷ big w n

-- the number that bytes write
unfoldable pub number : Bytes → ℕ
number [] = 0
number (b ∷ bs) = b * 256 ^ length bs + number bs

-- n bytes from place i on
abbrev pub part : ℕ → ℕ → Bytes → Bytes
part i n s = take n (drop i s)

-- the first n pieces of w bytes each
unfoldable pub pieces : ℕ → ℕ → Bytes → List Bytes
pieces w zero s = []
pieces w (suc n) s = take w s ∷ pieces w n (drop w s)

-- all pieces of w bytes each, and the numbers that they write
abbrev pub row_of : ℕ → Bytes → List Bytes
row_of w s = pieces w (length s / w) s

abbrev pub numbers : ℕ → Bytes → List ℕ
numbers w s = map number (row_of w s)

-- n is written in w bytes at place i
pub record Written (w : ℕ) (s : Bytes) (i n : ℕ) : Type 0 where
  pub bytes : big w n ≡ part i w s
  pub value : n ≡ number (part i w s)
  pub small : n < 256 ^ w
