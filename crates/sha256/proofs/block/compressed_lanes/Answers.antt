use Rattle.std.proofs.Common.{◌≡◌, take, ap, ◌∙◌, arith}
use Rattle.std.proofs.lemmas.List.{take_all}
use Rattle.sha256.specs.Standard.{hashed}
use Rattle.sha256.proofs.Whole.{lanes_hash}
use Rattle.sha256.proofs.block.compressed_lanes.Goals as goal

pub returns : goal.returns
returns c =
    let four = c.args.four.now in
    let value : c.hashed_under_lanes.result ≡ hashed c.args.words (take c.args.count four) =
    c.hashed_under_lanes.ensures ∙ lanes_hash c.args.count _ four c.args.words (omega arith) (λ l h. c.fill_keys.ensures l (omega arith)) in
    record {
      value = value;
      all = λ e. value ∙ ap (hashed c.args.words) (take_all c.args.count four (omega arith));
    }
