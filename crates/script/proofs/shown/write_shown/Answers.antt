use Rattle.std.proofs.Common.{arith, rules}
use Rattle.std.proofs.Output.{has_written_of_eq}
use Rattle.script.proofs.Hexes.{shown_escaped}
use Rattle.script.proofs.shown.write_shown.Goals as goal

pub returns-else-b : goal.returns-else-b
returns-else-b g c = λ plain done.
    has_written_of_eq _ _ _ _ _ (shown_escaped g.row.LEAST c.args.b c.else-b.either (omega arith)) (search rules)
