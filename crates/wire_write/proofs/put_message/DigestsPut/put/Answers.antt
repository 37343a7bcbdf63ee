use Rattle.wire_write.proofs.Appended.{as_well, digests_copied}
use Rattle.wire_write.proofs.put_message.DigestsPut.put.Goals as goal

pub returns-clause-grows : goal.returns-clause-grows
returns-clause-grows c = as_well (digests_copied c.args.self.now.bytes.now c.requires.ready) c.put.ensures.grows
