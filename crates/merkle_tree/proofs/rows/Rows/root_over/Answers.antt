-- Of no leaves the root is that of none, and any others are a subtree.
use Rattle.std.proofs.Common.{ℕ, take, sym, ap, ◌∙◌, arith}
use Rattle.merkle_theory.proofs.Laws.{root-of_none}
use Rattle.merkle.specs.Digests.{leaves}
use Rattle.merkle_tree.specs.Layout.{root_of}
use Rattle.merkle_tree.proofs.Subtrees.{first_leaves}
use Rattle.merkle_tree.proofs.rows.Rows.root_over.Goals as goal

pub returns-then-count-eq0 : goal.returns-then-count-eq0
returns-then-count-eq0 c =
    c.empty_root.ensures ∙ (sym (root-of_none leaves) ∙ ap (λ (n : ℕ). root_of (take n c.args.self.now.leaves.now)) (sym c.if-count-eq0.true))

pub subtree-requires : goal.subtree-requires
subtree-requires c = first_leaves c.args.self.now.leaves.now c.args.count (omega arith) c.requires
