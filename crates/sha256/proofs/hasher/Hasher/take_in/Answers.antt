use Rattle.std.proofs.Common.{◌≡◌, ◌-◌, ◌*◌, ◌/◌, ◌%◌, length, take, drop, refl, ap, ◌∙◌, arith}
use Rattle.std.proofs.lemmas.List.{take_rest, length-drop}
use Rattle.sha256.proofs.Pasted.{take_paste}
use Rattle.sha256.proofs.hasher.Hasher.take_in.Goals as goal

pub returns : goal.returns
returns c =
    let p = c.args.part.now in
    let low = length p / 64 * 64 in
    let rest : take (length p - low) (drop low p) ≡ drop low p = take_rest p low in
    record {
      words = c.keep.ensures.words ∙ c.compressed-self.ensures;
      count = c.keep.ensures.count;
      buffer = ap (take (length p % 64)) c.keep.ensures.buffer ∙ take_paste _ _ 0 _ _ refl (simp (rest, length-drop) (omega arith)) (omega arith) ∙ rest;
    }
