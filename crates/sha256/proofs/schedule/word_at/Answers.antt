use Rattle.std.proofs.Common.{◌∙◌, arith}
use Rattle.sha256.proofs.Chunked.{word_of}
use Rattle.sha256.proofs.schedule.word_at.Goals as goal

pub returns : goal.returns
returns c = c.from_be_bytes.ensures ∙ word_of _ c.args.block.now _ c.args.t c.as_chunks.ensures.front (omega arith)
