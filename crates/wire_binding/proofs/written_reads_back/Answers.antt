use Rattle.wire_binding.proofs.There.{reads_back}
use Rattle.wire_binding.proofs.written_reads_back.Goals as goal

pub returns : goal.returns
returns c = reads_back
