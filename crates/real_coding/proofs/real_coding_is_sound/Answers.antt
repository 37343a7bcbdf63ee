-- Cites the theorem.
use Rattle.real_coding.proofs.Coded.{real_is_sound}
use Rattle.real_coding.proofs.real_coding_is_sound.Goals as goal

pub returns : goal.returns
returns x = real_is_sound
