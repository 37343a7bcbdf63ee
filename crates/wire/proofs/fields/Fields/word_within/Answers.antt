use Rattle.std.proofs.Common.{◌≤◌, arith, rules}
use Rattle.wire.proofs.Begun.{word_told}
use Rattle.wire.proofs.fields.Fields.word_within.Goals as goal

pub returns-then-not-contains : goal.returns-then-not-contains
returns-then-not-contains c = λ long low high.
    let told = word_told _ _ _ c.in_ok-word.ensures.0 (omega arith) in
    let out : c.args.low ≤ c.in_ok-word.word → c.in_ok-word.word ≤ c.args.high → ⊥ = search rules in
    out (omega (arith, low, told)) (omega (arith, high, told))
