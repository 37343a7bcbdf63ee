-- A hasher that was fed m, and is fed more.
use Rattle.std.proofs.Common.{◌≡◌, ℕ, ◌+◌, ◌-◌, ◌*◌, ◌/◌, ◌%◌, ◌^◌, ◌<◌, ◌≤◌, List, [], ◌++◌, length, take, drop, sym, refl, ap, ◌∙◌, arith}
use lib.Seq.{length-paste, paste}
use Rattle.std.proofs.lemmas.List.{append-nil, append_assoc, nil_from_length, length-append, length-take-le, length-drop, take-append-drop, take_all}
use Rattle.sha256.specs.Standard.{Words, H0, blocks, hashed}
use Rattle.sha256.specs.Streaming.{Fed}
use Rattle.sha256.specs.declared.hasher.Hasher.{Hasher}
use Rattle.sha256.proofs.Pasted.{take_paste}
use Rattle.sha256.proofs.Whole.{hashed_append, blocks_append, blocks_take}

-- w is the hash value after the n blocks of whole
pub record Over (whole : List ℕ) (n : ℕ) (w : Words) : Type 0 where
  pub long : length whole ≡ 64 * n
  pub words : w ≡ hashed H0 (blocks n whole)

pub over_more : (whole bs : List ℕ) (n k : ℕ) (w v : Words) → Over whole n w → length bs ≡ 64 * k → v ≡ hashed w (blocks k bs) → Over (whole ++ bs) (n + k) v
over_more whole bs n k w v o l e =
    record {
      long = simp length-append (omega (arith, o.long));
      words = e ∙ ap (λ x. hashed x (blocks k bs)) o.words ∙ sym (hashed_append H0 (blocks n whole) (blocks k bs)) ∙ ap (hashed H0) (sym (blocks_append n k whole bs o.long));
    }

pub fed_over : (m : List ℕ) (s : Hasher) (f : Fed m s) → Over f.whole f.n s.words
fed_over m s f = record { long = f.long; words = f.words }

-- how much of the buffer is filled
pub fed_filled : (m : List ℕ) (s : Hasher) (f : Fed m s) → s.count % 64 ≡ length f.rest
fed_filled m s f = omega (arith, f.count, f.long, f.few, ap length f.parts, length-append f.whole f.rest)

-- more bytes, after whole blocks
taken_in : (whole p : List ℕ) (n : ℕ) (w : Words) (t : Hasher) → Over whole n w → t.count ≡ (length whole + length p) % 2 ^ 64
    → t.words ≡ hashed w (blocks (length p / 64) p) → take (length p % 64) t.buffer ≡ drop (length p / 64 * 64) p → Fed (whole ++ p) t
taken_in whole p n w t o count words kept =
    let k = length p / 64 in
    let low : k * 64 ≤ length p = omega arith in
    let left : length (drop (k * 64) p) ≡ length p % 64 = simp length-drop (omega arith) in
    let next = over_more whole (take (k * 64) p) n k w t.words o (length-take-le (k * 64) p low ∙ omega arith)
    (words ∙ ap (hashed w) (sym (blocks_take k (k * 64) p (omega arith) low))) in
    record {
      count = count ∙ ap (λ c. c % 2 ^ 64) (sym (length-append whole p));
      n = n + k;
      whole = whole ++ take (k * 64) p;
      rest = drop (k * 64) p;
      parts = sym (append_assoc whole (take (k * 64) p) (drop (k * 64) p) ∙ ap (λ x. whole ++ x) (take-append-drop (k * 64) p));
      long = next.long;
      few = omega arith;
      words = next.words;
      kept = rw left kept;
    }

-- nothing in the buffer
pub fed_empty : (m p : List ℕ) (s t : Hasher) → Fed m s → s.count % 64 ≡ 0 → t.count ≡ (s.count + length p) % 2 ^ 64
    → t.words ≡ hashed s.words (blocks (length p / 64) p) → take (length p % 64) t.buffer ≡ drop (length p / 64 * 64) p → Fed (m ++ p) t
fed_empty m p s t f z count words kept =
    let none : f.rest ≡ [] = nil_from_length f.rest (sym (fed_filled m s f) ∙ z) in
    let all : f.whole ≡ m = sym (f.parts ∙ rw none (append-nil f.whole)) in
    let o = fed_over m s f in
    let long : length f.whole ≡ length m = ap length all in
    rw (← all) (taken_in f.whole p f.n s.words t o (count ∙ omega (arith, f.count)) words kept)

-- the part fits the buffer
pub fed_short : (m p : List ℕ) (s t : Hasher) → Fed m s → length s.buffer ≡ 64 → length p + s.count % 64 < 64 → t.count ≡ (s.count + length p) % 2 ^ 64
    → t.words ≡ s.words → t.buffer ≡ paste s.buffer (s.count % 64) p (length p) → Fed (m ++ p) t
fed_short m p s t f long l count words buffer =
    let at = fed_filled m s f in
    record {
      count = count ∙ simp length-append (omega (arith, f.count));
      n = f.n;
      whole = f.whole;
      rest = f.rest ++ p;
      parts = ap (λ x. x ++ p) f.parts ∙ append_assoc f.whole f.rest p;
      long = f.long;
      few = simp length-append (omega arith);
      words = words ∙ f.words;
      kept = ap (take (length (f.rest ++ p))) (buffer ∙ ap (λ k. paste s.buffer k p (length p)) at)
          ∙ take_paste s.buffer p (length f.rest) (length p) (length (f.rest ++ p)) refl (length-append f.rest p) (omega arith)
          ∙ ap (λ x. x ++ p) f.kept;
    }

-- the front of the part fills the buffer to a block
pub fed_past : (m p q : List ℕ) (s t : Hasher) (b : List ℕ) (w : Words) → Fed m s → length s.buffer ≡ 64 → length p ≡ 64 - s.count % 64
    → b ≡ paste s.buffer (s.count % 64) p (length p) → w ≡ hashed s.words (blocks (length b / 64) b) → t.count ≡ (s.count + length (p ++ q)) % 2 ^ 64
    → t.words ≡ hashed w (blocks (length q / 64) q) → take (length q % 64) t.buffer ≡ drop (length q / 64 * 64) q → Fed (m ++ (p ++ q)) t
fed_past m p q s t b w f long l buffer block count words kept =
    let at = fed_filled m s f in
    let few = f.few in
    let length-b : length b ≡ 64 = ap length buffer ∙ length-paste s.buffer (s.count % 64) p (length p) (omega arith) (omega arith) ∙ long in
    let full : b ≡ f.rest ++ p =
    sym (take_all 64 b (omega arith)) ∙ ap (take 64) (buffer ∙ ap (λ k. paste s.buffer k p (length p)) at)
    ∙ take_paste s.buffer p (length f.rest) (length p) 64 refl (omega arith) (omega arith)
    ∙ ap (λ x. x ++ p) f.kept in
    let one : length (f.rest ++ p) ≡ 64 * 1 = ap length (sym full) ∙ length-b in
    let o = over_more f.whole (f.rest ++ p) f.n 1 s.words w (fed_over m s f) one (block ∙ rw (length-b, full)) in
    let all : m ++ (p ++ q) ≡ (f.whole ++ (f.rest ++ p)) ++ q = rw f.parts (simp append_assoc) in
    let size : length (f.whole ++ (f.rest ++ p)) + length q ≡ length m + length (p ++ q) =
    simp length-append (omega (arith, ap length f.parts, length-append f.whole f.rest)) in
    rw all (taken_in (f.whole ++ (f.rest ++ p)) q (f.n + 1) w t o (count ∙ omega (arith, f.count)) words kept)
