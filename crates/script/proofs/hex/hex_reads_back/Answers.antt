use Rattle.script.proofs.Hexes.{hex_reads_back}
use Rattle.script.proofs.hex.hex_reads_back.Goals as goal

pub returns : goal.returns
returns c = hex_reads_back
