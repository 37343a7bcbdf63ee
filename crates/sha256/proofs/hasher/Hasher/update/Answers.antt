use Rattle.std.proofs.Common.{◌≡◌, ◌+◌, ◌/◌, ◌%◌, ◌^◌, ◌++◌, length, ap, ◌∙◌, arith}
use lib.Seq.{paste}
use Rattle.sha256.specs.Standard.{blocks, hashed}
use Rattle.sha256.proofs.Feeding.{fed_empty, fed_short, fed_past}
use Rattle.sha256.proofs.hasher.Hasher.update.Goals as goal

pub returns-then-filled-eq0 : goal.returns-then-filled-eq0
returns-then-filled-eq0 c =
    λ m f. fed_empty m c.args.part.now c.args.self.now c.take_in.new.self f (omega arith) c.take_in.ensures.count c.take_in.ensures.words c.take_in.ensures.buffer

pub returns-then-part-room : goal.returns-then-part-room
returns-then-part-room c =
    let part = c.args.part.now in
    λ m f. fed_short m part c.args.self.now c.keep.new.self f (omega arith) (omega arith) c.keep.ensures.count c.keep.ensures.words
    (c.keep.ensures.buffer ∙ ap (λ at. paste c.args.self.now.buffer at part (length part)) c.filled-filled.ensures)

pub returns : goal.returns
returns c =
    let s = c.args.self.now in
    let p = c.split_at.result.0.now in
    let q = c.split_at.result.1.now in
    let b = c.keep-2.new.self.buffer in
    let whole : c.args.part.now ≡ p ++ q = c.split_at.ensures.by_index.0 in
    λ m f. rw whole (fed_past m p q s c.take_in-2.new.self b c.compressed-self.result f (omega arith) (omega arith)
    (c.keep-2.ensures.buffer ∙ ap (λ at. paste s.buffer at p (length p)) c.filled-filled.ensures)
    (c.compressed-self.ensures ∙ ap (λ w. hashed w (blocks (length b / 64) b)) c.keep-2.ensures.words)
    (c.take_in-2.ensures.count ∙ c.keep-2.ensures.count ∙ ap (λ x. (s.count + length x) % 2 ^ 64) whole) c.take_in-2.ensures.words c.take_in-2.ensures.buffer)
