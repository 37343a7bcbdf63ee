use Rattle.wire_write.proofs.Short.{list_ready}
use Rattle.wire_write.proofs.put_message.MessagePut.put.Goals as goal

pub put-requires-in-RevocationList-clause-ready : goal.put-requires-in-RevocationList-clause-ready
put-requires-in-RevocationList-clause-ready c = list_ready _ _ c.in-RevocationList.is c.requires.ready
