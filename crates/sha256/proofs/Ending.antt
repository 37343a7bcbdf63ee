-- The end of a message with its padding, and the digest that comes of it.
use Rattle.std.proofs.Common.{◌≡◌, ℕ, suc, ◌+◌, ◌-◌, ◌*◌, ◌/◌, ◌%◌, ◌^◌, ◌<◌, ◌≤◌, List, ◌∷◌, ◌++◌, length, take, set, replicate, sym, refl, ap, ◌∙◌, zero-add, arith}
use lib.Seq.{paste}
use Rattle.std.proofs.lemmas.List.{append_assoc, take_all, take_at, set_at, drop-replicate, replicate-append-replicate, length-append, length-replicate}
use Rattle.sha256.specs.Standard.{Words, blocks, hashed, output, padded, zeros, bytes64, digest}
use Rattle.sha256.specs.Streaming.{Fed}
use Rattle.sha256.specs.declared.hasher.Hasher.{Hasher}
use Rattle.sha256.proofs.Pasted.{paste_to_end}
use Rattle.sha256.proofs.Feeding.{fed_over, fed_filled, over_more}

-- zeros, with the rest of a message put in front, and a bit
marked : (rest : List ℕ) (e : ℕ) → length rest < e → set (paste (replicate e 0) 0 rest (length rest)) (length rest) 0x80 ≡ rest ++ 0x80 ∷ replicate (e - 1 - length rest) 0
marked rest e l =
    let n = length rest in
    let one : e - n ≡ suc (e - 1 - n) = omega arith in
    rw (zero-add n, drop-replicate {X = ℕ} n e 0, one, take_all n rest (omega arith)) (set_at rest 0 (replicate (e - 1 - n) 0) 0x80 n refl)

pub ended : (rest bits t u : List ℕ) (e : ℕ) → length rest + 9 ≤ e → length bits ≡ 8
    → t ≡ paste (replicate e 0) 0 rest (length rest) → u ≡ paste (set t (length rest) 0x80) (e - 8) bits (length bits)
    → u ≡ rest ++ 0x80 ∷ replicate (e - 9 - length rest) 0 ++ bits
ended rest bits t u e l b p q =
    let n = length rest in
    let front = rest ++ 0x80 ∷ replicate (e - 9 - n) 0 in
    let room : (e - 9 - n) + 8 ≡ e - 1 - n = omega arith in
    let zeros-parted : ◌≡◌ {A = List ℕ} (replicate (e - 1 - n) 0) (replicate (e - 9 - n) 0 ++ replicate 8 0) =
    ap (λ k. replicate k 0) (sym room) ∙ sym (replicate-append-replicate (e - 9 - n) 8 0) in
    let parts : set t n 0x80 ≡ front ++ replicate 8 0 =
    ap (λ x. set x n 0x80) p ∙ marked rest e (omega arith) ∙ ap (λ z. rest ++ 0x80 ∷ z) zeros-parted
    ∙ sym (append_assoc rest (0x80 ∷ replicate (e - 9 - n) 0) (replicate 8 0)) in
    let size : length front ≡ e - 8 = simp (length-append, length-replicate) (omega arith) in
    let all : length (set t n 0x80) ≡ e = ap length parts ∙ length-append front (replicate 8 0) ∙ omega arith in
    paste_to_end (set t n 0x80) bits u (e - 8) q (omega arith)
    ∙ ap (λ x. x ++ bits) (ap (take (e - 8)) parts ∙ take_at front (replicate 8 0) (e - 8) size)

bytes64_low : (n : ℕ) → bytes64 (n % 2 ^ 64) ≡ bytes64 n
bytes64_low n =
    let b0 : n % 2 ^ 64 / 2 ^ 56 % 256 ≡ n / 2 ^ 56 % 256 = omega arith in
    let b1 : n % 2 ^ 64 / 2 ^ 48 % 256 ≡ n / 2 ^ 48 % 256 = omega arith in
    let b2 : n % 2 ^ 64 / 2 ^ 40 % 256 ≡ n / 2 ^ 40 % 256 = omega arith in
    let b3 : n % 2 ^ 64 / 2 ^ 32 % 256 ≡ n / 2 ^ 32 % 256 = omega arith in
    let b4 : n % 2 ^ 64 / 2 ^ 24 % 256 ≡ n / 2 ^ 24 % 256 = omega arith in
    let b5 : n % 2 ^ 64 / 2 ^ 16 % 256 ≡ n / 2 ^ 16 % 256 = omega arith in
    let b6 : n % 2 ^ 64 / 2 ^ 8 % 256 ≡ n / 2 ^ 8 % 256 = omega arith in
    let b7 : n % 2 ^ 64 % 256 ≡ n % 256 = omega arith in
    rw (b0, b1, b2, b3, b4, b5, b6, b7)

-- the padded message is the whole blocks and the padded rest
pub padded_is : (m : List ℕ) (s : Hasher) (f : Fed m s) (e : ℕ) → e ≡ (s.count % 64 + 9 + 63) / 64 * 64
    → padded m ≡ f.whole ++ (f.rest ++ 0x80 ∷ replicate (e - 9 - length f.rest) 0 ++ bytes64 (s.count * 8 % 2 ^ 64))
unfolding padded
padded_is m s f e h =
    let at = fed_filled m s f in
    let counted = f.count in
    let fill : zeros (length m) ≡ e - 9 - length f.rest = omega arith in
    let low : 8 * length m % 2 ^ 64 ≡ s.count * 8 % 2 ^ 64 = omega arith in
    let bits : bytes64 (8 * length m) ≡ bytes64 (s.count * 8 % 2 ^ 64) = sym (bytes64_low (8 * length m)) ∙ ap bytes64 low in
    rw (fill, bits, f.parts) (simp append_assoc)

-- from what the code holds at the end: the padded rest r, and the hash value w
pub finished : (m : List ℕ) (s : Hasher) (f : Fed m s) (filled e : ℕ) (r : List ℕ) (w : Words) → filled ≡ s.count % 64 → e ≡ (filled + 9 + 63) / 64 * 64
    → r ≡ take filled s.buffer ++ 0x80 ∷ replicate (e - 9 - length (take filled s.buffer)) 0 ++ bytes64 (s.count * 8 % 2 ^ 64)
    → w ≡ hashed s.words (blocks (length r / 64) r) → output w ≡ digest m
unfolding digest
finished m s f filled e r w a h t g =
    let at = fed_filled m s f in
    let few = f.few in
    let k = e / 64 in
    let held : take filled s.buffer ≡ f.rest = ap (λ n. take n s.buffer) (a ∙ at) ∙ f.kept in
    let tail : r ≡ f.rest ++ 0x80 ∷ replicate (e - 9 - length f.rest) 0 ++ bytes64 (s.count * 8 % 2 ^ 64) = t ∙ rw held in
    let size : length r ≡ e = ap length tail ∙ simp (length-append, length-replicate) (omega arith) in
    let next = over_more f.whole r f.n k s.words w (fed_over m s f) (omega arith) (g ∙ rw size) in
    let all : padded m ≡ f.whole ++ r = padded_is m s f e (h ∙ rw a) ∙ ap (λ x. f.whole ++ x) (sym tail) in
    let count : length (padded m) / 64 ≡ f.n + k = rw all (simp length-append (omega (arith, f.long))) in
    ap output (next.words ∙ rw (← all, ← count))
