use Rattle.std.proofs.Common.{refl}
use Rattle.play.proofs.Found.{found_performs}
use Rattle.play.proofs.harbour.Harbour.carry_out.Goals as goal

pub returns-in-Way : goal.returns-in-Way
returns-in-Way c = found_performs _ _ _ _ c.in-Way.is tt tt refl c.way.ensures

pub returns-in-Proof : goal.returns-in-Proof
returns-in-Proof c = found_performs _ _ _ _ c.in-Proof.is tt tt refl c.proof.ensures
