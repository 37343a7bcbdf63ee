use Rattle.std.proofs.Common.{rules, eqb, sym, ap, ◌∙◌, subst, arith}
use Rattle.std.specs.Bool.{then_some}
use Rattle.merkle.specs.Consistency.{TurnsToLast}
use Rattle.merkle.proofs.OnProof.{proof_outside, proof_reached, proof_short, proof_fits}
use Rattle.merkle.proofs.consistency.turns_to_last.Goals as goal

pub returns-in_err-from_root : goal.returns-in_err-from_root
returns-in_err-from_root c = subst (TurnsToLast c.args.count c.args.place c.args.levels) (sym c.from_residual.ensures) (proof_outside c.args.count c.args.place c.args.levels c.in_err-from_root.ensures)

pub returns-in_err-way : goal.returns-in_err-way
returns-in_err-way c =
    let (w, down, level, inner) = c.in_err-way.ensures in
    let known = proof_reached _ c.args.count c.args.place c.args.levels (λ w p e. search (arith, rules)) c.in_ok-from_root.field-0 w c.in_ok-from_root.ensures down (omega arith) in
    subst (TurnsToLast c.args.count c.args.place c.args.levels) (sym c.from_residual-in_err-way.ensures) (proof_short c.args.count c.args.place c.args.levels w known (λ e. search (arith, rules)) level)

pub returns : goal.returns
returns c =
    let (down, level, end) = c.in_ok-way.ensures in
    let known = proof_reached _ c.args.count c.args.place c.args.levels (λ w p e. search (arith, rules)) c.in_ok-from_root.field-0 c.in_ok-way.way c.in_ok-from_root.ensures down level in
    subst (TurnsToLast c.args.count c.args.place c.args.levels)
    (sym (c.then_some.ensures ∙ ap (λ k. then_some (eqb k c.args.levels) c.in_ok-way.way.turns) c.proof_length.ensures)) (proof_fits c.args.count c.args.place c.args.levels c.in_ok-way.way known (search (arith, rules)) level)
