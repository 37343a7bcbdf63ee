-- Cites the theorems.
use Rattle.real_coding.proofs.Coded.{stand_in_is_sound, stand_in_seals_fit}
use Rattle.real_coding.proofs.stand_in_setup_is_sound.Goals as goal

pub returns : goal.returns
returns x = record { sound = stand_in_is_sound; seals = stand_in_seals_fit }
