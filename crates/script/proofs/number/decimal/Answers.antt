use Rattle.std.proofs.Common.{◌+◌, ◌*◌, get_or, sym, ap, ◌∙◌, ⊎_elim, arith, false-eqb}
use Rattle.std.specs.Char.{digit_value}
use Rattle.std.proofs.lemmas.Int.Digits.{digits_value_more, digits_more}
use Rattle.script.proofs.Decimals.{not_a_digit, too_large, decimal_of_all}
use Rattle.script.proofs.number.decimal.Goals as goal

pub returns-in_err-n : goal.returns-in_err-n
returns-in_err-n c =
    let word = c.args.word.now in
    let i = c.loop-b.b-index in
    rw c.from_residual.ensures
    (⊎_elim (not_a_digit word i c.loop-b-test.true) (too_large word i c.loop-b.n c.loop-b-test.true c.loop-b.invariant.1) c.in_err-n.ensures)

pub loop-b-preserved : goal.loop-b-preserved
loop-b-preserved c =
    let word = c.args.word.now in
    let i = c.loop-b.b-index in
    let one = c.in_ok-n.ensures in
    let more = c.loop-b-test.true in
    (digits_more 10 word i more c.loop-b.invariant.0 one.0, digits_value_more 10 word i more ∙ ap (λ m. m * 10 + digit_value (get_or word i 0)) c.loop-b.invariant.1 ∙ sym one.1, one.2)

pub returns : goal.returns
returns c =
    decimal_of_all _ c.loop-b.b-index _ c.loop-b-test.false (omega (arith, false-eqb _ 0 c.if-is_empty.ensures)) c.loop-b.invariant.0 c.loop-b.invariant.1 c.loop-b.invariant.2
