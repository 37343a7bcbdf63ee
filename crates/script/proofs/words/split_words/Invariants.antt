use Rattle.std.proofs.Common.{◌≡◌, ◌<◌, false, ◌++◌, map, length, get_or, vec_items}
use Rattle.script.specs.Words.{blank, spoken, words}
use Rattle.script.proofs.words.split_words.Given as goal

abbrev pub invariant-loop-rest : goal.invariant-loop-rest
invariant-loop-rest l =
    (map (λ w. w.now) (vec_items l.found) ++ words l.rest ≡ words (spoken l.line)) × (0 < length l.rest → blank (get_or l.rest 0 0) ≡ false)

abbrev pub decreases-loop-rest : goal.decreases-loop-rest
decreases-loop-rest l = length l.rest
