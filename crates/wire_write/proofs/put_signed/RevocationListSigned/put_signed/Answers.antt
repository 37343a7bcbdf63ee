use Rattle.std.proofs.Common.{refl, ◌∙◌}
use Rattle.wire.specs.Views.{list_of}
use Rattle.wire_theory.proofs.Numbers.{two_bytes_of}
use Rattle.wire_write.proofs.Appended.{and_then, as_well, list_copied}
use Rattle.wire_write.proofs.put_signed.RevocationListSigned.put_signed.Goals as goal

pub returns-clause-grows : goal.returns-clause-grows
returns-clause-grows c =
    let whole = list_copied (list_of c.args.self.now) _ _ refl c.requires.ready.0 (c.to_be_bytes.ensures ∙ two_bytes_of _) in
    as_well whole (and_then c.put.ensures.grows (and_then c.put-2.ensures.grows (and_then c.put-3.ensures.grows (and_then c.put-4.ensures.grows c.put-5.ensures.grows))))
