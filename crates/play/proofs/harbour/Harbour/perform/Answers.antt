use Rattle.play.proofs.Tellings.{keeps_texts}
use Rattle.play.proofs.harbour.Harbour.perform.Goals as goal

pub returns : goal.returns
returns c = record { does = c.carry_out.ensures; tells = keeps_texts _ _ _ _ c.carry_out.ensures }
