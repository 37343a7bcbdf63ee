-- The first whole subtree's root is kept, and the rest is a subtree.
use Rattle.std.proofs.Common.{ℕ, ap, ◌∙◌, ap₂, arith}
use Rattle.merkle.specs.Digests.{node_of}
use Rattle.merkle_tree.specs.Layout.{root_of, part}
use Rattle.merkle_tree.proofs.Subtrees.{first_is_left, first_kept, right_side, root-of_first}
use Rattle.merkle_tree.proofs.rows.Rows.+subtree.Goals as goal

pub returns-then-first-span : goal.returns-then-first-span
returns-then-first-span t c =
    c.whole-left.ensures
    ∙ (first_kept c.requires c.args.self.now.mids.now _ c.first_whole-first.ensures.value c.args.self.now.kept
    ∙ ap (λ (n : ℕ). root_of (part c.args.span.from n c.args.self.now.leaves.now)) c.if-first-span.true)

pub subtree-requires : goal.subtree-requires
subtree-requires t c =
    let left = first_is_left c.requires _ c.first_whole-first.ensures.value c.if-first-span.false in
    (omega arith, right_side c.requires (omega arith) c.first_whole-first.result left)

pub returns : goal.returns
returns t c =
    c.node_digest.ensures
    ∙ (ap₂ node_of (c.whole-left.ensures ∙ first_kept c.requires c.args.self.now.mids.now _ c.first_whole-first.ensures.value c.args.self.now.kept) c.subtree.ensures
    ∙ root-of_first c.requires _ c.first_whole-first.ensures.value c.if-first-span.false)
