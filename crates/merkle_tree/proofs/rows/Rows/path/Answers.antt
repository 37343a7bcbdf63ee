-- At the leaf all is noted.
use Rattle.std.proofs.Common.{rules, arith}
use Rattle.merkle_tree.proofs.Walks.{path_walked}
use Rattle.merkle_tree.proofs.rows.Rows.path.Goals as goal

pub returns : goal.returns
returns c =
    let (walks, end, subtree) = c.in_ok-walk.ensures in
    path_walked _ c.args.self.now.leaves.now c.args.place c.args.count c.in_ok-walk.walk.beside.items c.in_ok-walk.walk.end.from c.in_ok-walk.walk.end.size
    (λ from size a b p. search (arith, rules)) c.requires.there c.requires.within walks (search (arith, rules))
