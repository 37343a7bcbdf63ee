use Rattle.std.proofs.Common.{rules, sym, ◌∙◌, ap₂, ◌++◌, ◌∷◌, []}
use Rattle.std.proofs.lemmas.List.FromFn.{map-range_with_len_more}
use Rattle.bench_tree.proofs.work.grown.Goals as goal

pub loop-place-preserved : goal.loop-place-preserved
loop-place-preserved c =
    c.in_ok-push.ensures
    ∙ ap₂ (λ xs x. xs ++ (x ∷ [])) c.loop-place.invariant c.leaf_at.ensures
    ∙ sym (map-range_with_len_more _ 0 c.loop-place.place c.loop-place.place (search rules))
