use Rattle.std.proofs.Common.{◌-◌, take, drop, ◌∙◌, arith}
use Rattle.sha256.proofs.Chunked.{word_of}
use Rattle.sha256.proofs.Nodes.{tagged_word}
use Rattle.sha256.proofs.four.front_word.Goals as goal

pub returns : goal.returns
returns c =
    let p = c.args.pair.now in
    let t = c.args.t in
    c.from_be_bytes-2.ensures ∙ word_of _ (take 61 (drop 3 p)) _ (t - 1) c.as_chunks.ensures.front (omega arith) ∙ tagged_word c.args.tag p t (omega arith) (omega arith)
