use Rattle.std.proofs.Common.{◌∙◌}
use Rattle.wire_theory.proofs.Numbers.{four_bytes_of}
use Rattle.wire_write.proofs.Appended.{as_well}
use Rattle.wire_write.proofs.put.U32Put.put.Goals as goal

pub returns-clause-grows : goal.returns-clause-grows
returns-clause-grows c = as_well (c.to_be_bytes.ensures ∙ four_bytes_of c.args.self.now) c.put.ensures.grows
