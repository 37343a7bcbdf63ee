use Rattle.std.proofs.Common.{take, vec_items}
use Rattle.script.specs.Grammar.{Hexes, texts}
use Rattle.script.proofs.read.digests.Given as goal

abbrev pub invariant-loop-word : goal.invariant-loop-word
invariant-loop-word l = Hexes (texts (take l.word-index l.words)) (vec_items l.read)
