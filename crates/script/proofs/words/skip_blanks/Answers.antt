use Rattle.std.proofs.lemmas.List.{take_rest}
use Rattle.script.proofs.Cuts.{behind_blanks}
use Rattle.script.proofs.words.skip_blanks.Goals as goal

pub returns : goal.returns
returns c =
    let ran = c.run.ensures in
    let left = behind_blanks _ _ ran.within ran.all ran.stops in
    simp take_rest (record { same = left.0; first = left.1; shorter = left.2 })
