use Rattle.std.proofs.Common.{rules, sym, subst, arith}
use Rattle.merkle.specs.Inclusion.{TurnsToLeaf}
use Rattle.merkle.proofs.OnPath.{path-outside, path_reached, path_short, path_fits}
use Rattle.merkle.proofs.inclusion.turns_to_leaf.Goals as goal

pub returns-in_err-from_root : goal.returns-in_err-from_root
returns-in_err-from_root c = subst (TurnsToLeaf c.args.count c.args.place c.args.levels) (sym c.from_residual.ensures) (path-outside c.args.count c.args.place c.args.levels c.in_err-from_root.ensures)

pub returns-in_err-way : goal.returns-in_err-way
returns-in_err-way c =
    let (w, down, level, inner) = c.in_err-way.ensures in
    let known = path_reached _ c.args.count c.args.place c.args.levels (λ w p e. search (arith, rules)) c.in_ok-from_root.field-0 w c.in_ok-from_root.ensures down (omega arith) in
    subst (TurnsToLeaf c.args.count c.args.place c.args.levels) (sym c.from_residual-in_err-way.ensures) (path_short c.args.count c.args.place c.args.levels w known (λ e. search (arith, rules)) level)

pub returns : goal.returns
returns c =
    let (down, level, end) = c.in_ok-way.ensures in
    let known = path_reached _ c.args.count c.args.place c.args.levels (λ w p e. search (arith, rules)) c.in_ok-from_root.field-0 c.in_ok-way.way c.in_ok-from_root.ensures down level in
    subst (TurnsToLeaf c.args.count c.args.place c.args.levels) (sym c.then_some.ensures) (path_fits c.args.count c.args.place c.args.levels c.in_ok-way.way known (search (arith, rules)) level)
