use Rattle.wire_theory.proofs.Follows.{entries_read}
use Rattle.wire_write.proofs.Appended.{as_well}
use Rattle.wire_write.proofs.put_message.CertificatesPut.put.Goals as goal

pub returns-clause-grows : goal.returns-clause-grows
returns-clause-grows c = as_well (entries_read _ c.requires.ready).bytes c.put.ensures.grows
