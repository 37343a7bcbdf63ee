use Rattle.std.proofs.Common.{◌∙◌}
use Rattle.wire_theory.proofs.Numbers.{eight_bytes_of}
use Rattle.wire_write.proofs.put.eight_bytes.Goals as goal

pub returns : goal.returns
returns c = c.to_be_bytes.ensures ∙ eight_bytes_of c.args.n
