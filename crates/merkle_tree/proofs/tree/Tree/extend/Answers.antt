-- Both rows have grown, and what was kept still is.
use Rattle.std.proofs.Common.{vec_items, sym, refl, ◌∙◌}
use Rattle.std.proofs.lemmas.Slice.{pushed}
use Rattle.std.proofs.lemmas.Bool.{cond-true}
use Rattle.merkle_tree.proofs.Grows.{grown}
use Rattle.merkle_tree.proofs.tree.Tree.extend.Goals as goal

pub fill-requires-clause-kept : goal.fill-requires-clause-kept
fill-requires-clause-kept c =
    let self = c.args.self.now in
    let ds = vec_items self.leaves in
    let ms = vec_items self.mids in
    let row = c.args.row.now in
    grown ds ms row _ _ _
    (c.deref.ensures.value ∙ (c.extend_from_slice-2.ensures.items ∙ cond-true _ _ _ c.if-is_err.ensures.negation))
    (c.deref_mut.ensures.value ∙ pushed row refl c.in_ok-extend_from_slice.was c.extend_from_slice.ensures.items)
    self.paired (sym self.leaves.ok.0 ∙ sym c.len-before.ensures) self.kept
