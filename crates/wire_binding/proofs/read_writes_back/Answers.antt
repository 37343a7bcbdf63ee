use Rattle.wire_binding.proofs.There.{writes_back}
use Rattle.wire_binding.proofs.read_writes_back.Goals as goal

pub returns : goal.returns
returns c = writes_back
