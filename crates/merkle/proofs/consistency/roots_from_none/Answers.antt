use Rattle.std.proofs.Common.{◌<◌, sym, ap, ◌∙◌, ne_eqb, arith}
use Rattle.std.specs.Bool.{then_some}
use Rattle.merkle.specs.Consistency.{as_roots, both}
use Rattle.merkle.proofs.OnProof.{none_before_some, from_none}
use Rattle.merkle.proofs.consistency.roots_from_none.Goals as goal
use Rattle.merkle.proofs.consistency.roots_from_none.Goals.{then-to-eq0, else-to-eq0}

pub returns : goal.returns
returns c =
    let old = c.args.earlier.now in
    let said = ap as_roots (c.then_some.ensures ∙ ap (then_some c.if-to-eq0.then_some) c.alike.ensures) in
    said ∙ elim c.if-to-eq0.branch [
      | then-to-eq0 w ↦ ap (λ b. as_roots (then_some b (both old))) (w.then_some-is ∙ w.is_empty.ensures) ∙ sym (from_none c.args.to old c.args.proof.now w.if-to-eq0.true)
      | else-to-eq0 w ↦
          let some : 0 < c.args.to = omega (arith, w.if-to-eq0.false) in
          ap (λ b. as_roots (then_some b (both old))) (w.then_some-is ∙ ne_eqb c.args.to 0 w.if-to-eq0.false) ∙ sym (none_before_some c.args.to _ old c.args.proof.now some)
    ]
