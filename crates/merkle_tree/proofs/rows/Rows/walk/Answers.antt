-- A step down notes one digest more.
use Rattle.std.proofs.Common.{◌+◌, false, vec_items, sym, refl, subst}
use Rattle.merkle_tree.specs.Walk.{Walks}
use Rattle.merkle_tree.proofs.Walks.{way_begins, way_down, walks_more}
use Rattle.merkle_tree.proofs.rows.Rows.walk.Goals as goal

pub down-init : goal.down-init
down-init g c = (
  way_begins c.requires.there c.requires.within,
  subst (λ out. Walks (λ f s. goal.F-post g c.args.ends s (f + s) false) c.args.self.now.leaves.now c.args.place out 0 c.args.count 0 c.args.count)
      (sym c.new-beside.ensures.items) (refl, refl),
)

pub down-smaller : goal.down-smaller
down-smaller g c =
    let l = c.down in
    let w = l.invariant.0 in
    let went = subst (λ r. goal.F-post g c.args.ends l.span.size (l.span.from + l.span.size) r) c.if-ends.false c.ends.ensures in
    (way_down c.down-step.result w (c.requires.goes_on l.span.from l.span.size w.after w.before went) c.down-step.ensures).1

pub down-preserved : goal.down-preserved
down-preserved g c =
    let l = c.down in
    let w = l.invariant.0 in
    let went = subst (λ r. goal.F-post g c.args.ends l.span.size (l.span.from + l.span.size) r) c.if-ends.false c.ends.ensures in (
      (way_down c.down-step.result w (c.requires.goes_on l.span.from l.span.size w.after w.before went) c.down-step.ensures).0,
      subst (λ out. Walks (λ f s. goal.F-post g c.args.ends s (f + s) false) c.args.self.now.leaves.now c.args.place out 0 c.args.count c.down-step.result.side.from c.down-step.result.side.size)
          (sym c.in_ok-push.ensures.items) (walks_more _ c.args.self.now.leaves.now c.args.place l.span.from l.span.size c.down-step.result c.down-step.ensures went (vec_items l.beside) 0 c.args.count l.invariant.1),
    )
