-- In each lane, the two blocks of its message.
use Rattle.std.proofs.Common.{◌≡◌, ℕ, ◌<◌, [], ◌∷◌, get_or, rules, refl, ◌∙◌}
use Rattle.sha256.specs.Lanes.{lane_of}
use Rattle.sha256.specs.Standard.{H0, output, digest}
use Rattle.sha256.proofs.FromFn.{made_at}
use Rattle.sha256.proofs.Lanewise.{}
use Rattle.sha256.proofs.Nodes.{two_blocks}
use Rattle.sha256.proofs.Whole.{lane_hash}
use Rattle.sha256.proofs.four.sha256_four.Goals as goal

pub returns : goal.returns
unfolding H0
returns c =
    let pairs = c.args.pairs.now in
    let last = c.hashed_under-last.result in
    let node : (l : ℕ) → l < 4 → output (lane_of (λ w. get_or w l 0) last) ≡ digest (c.args.tag ∷ get_or pairs l []) =
    λ l h. two_blocks c.args.tag (get_or pairs l []) (lane_of (λ w. get_or w l 0) c.hashed_under-middle.result) (lane_of (λ w. get_or w l 0) last) (c.fill_backs.ensures.long l h)
    (lane_hash _ _ _ _ _ (c.splat.ensures l h) (c.fill_fronts.ensures l h) (c.hashed_under-middle.ensures l l h (λ four w e. search rules)))
    (lane_hash _ _ _ _ _ refl (c.fill_backs.ensures.filled l h) (c.hashed_under-last.ensures l l h (λ four w e. search rules))) in
    λ l h. made_at _ (λ k y. y ≡ output (lane_of (λ w. get_or w k 0) last)) _ (λ k y q e. search rules) _ 4 l [] h c.from_fn.ensures.items ∙ node l h
