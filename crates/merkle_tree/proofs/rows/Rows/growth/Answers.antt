-- Where the first old leaves end, only the root of that part may be to come.
use Rattle.std.proofs.Common.{◌≡◌, ◌+◌, ◌++◌, vec_items, rules, ap, ◌∙◌, sym, arith}
use Rattle.std.proofs.lemmas.List.{append-nil}
use Rattle.merkle_tree.specs.declared.walk.Walk.{Walk}
use Rattle.merkle_tree.proofs.Walks.{growth_walked, growth_ends_whole, growth_ends_part}
use Rattle.merkle_tree.proofs.rows.Rows.growth.Goals as goal
use Rattle.merkle_tree.proofs.rows.Rows.growth.Goals.{then-walk-gt0+in_ok-push, else-walk-gt0}

pub returns : goal.returns
returns c =
    let (walks, end, subtree) = c.in_ok-walk.ensures in
    let walk = c.in_ok-walk.walk in
    let all = growth_walked _ c.args.self.now.leaves.now c.args.old c.args.count walk.beside.items walk.end.from walk.end.size
    (λ from size p e. search (arith, rules)) c.requires.some c.requires.there c.requires.within walks in
    let old : walk.end.from + walk.end.size ≡ c.args.old = search (arith, rules) in
    elim c.if-walk-gt0.branch [
      | then-walk-gt0+in_ok-push w ↦
          ap (λ (t : Walk). vec_items t.beside) w.walk-is
          ∙ (w.in_ok-push.ensures.items ∙ sym (all ∙ ap (λ r. vec_items walk.beside ++ r) (growth_ends_part subtree old w.if-walk-gt0.true w.subtree.ensures)))
      | else-walk-gt0 w ↦
          ap (λ (t : Walk). vec_items t.beside) w.walk-is
          ∙ sym (all ∙ (ap (λ r. vec_items walk.beside ++ r) (growth_ends_whole subtree old w.if-walk-gt0.false) ∙ append-nil (vec_items walk.beside)))
    ]
