-- The array has what is kept at each of the eight places.
use Rattle.std.proofs.Common.{rules, ◌≡◌, ℕ, ◌+◌, ◌*◌, ◌<◌, [], ◌∷◌, get_or, ap, ◌∙◌, arith, lit<}
use Rattle.merkle.proofs.Rows.{spelled}
use Rattle.merkle_tree.specs.Layout.{blank, kept_at}
use Rattle.merkle_tree.proofs.fill.eight.Goals as goal

pub returns : goal.returns
returns c =
    let ds = c.args.leaves.now in
    let ms = c.args.mids.now in
    let from = c.args.from in
    let size = c.args.size in
    let each : (i : ℕ) → i < 8 → get_or c.from_fn.result i blank ≡ kept_at ds ms (from + i * size) size = search rules in
    let first : from + 0 * size ≡ from = omega arith in
    let second : from + 1 * size ≡ from + size = omega arith in
    let at0 = each 0 (lit< tt) ∙ ap (λ p. kept_at ds ms p size) first in
    let at1 = each 1 (lit< tt) ∙ ap (λ p. kept_at ds ms p size) second in
    spelled 8 c.from_fn.result blank c.from_fn.ensures.items.long
    ∙ (λ i. at0 i ∷ (at1 i ∷ (each 2 (lit< tt) i ∷ (each 3 (lit< tt) i ∷ (each 4 (lit< tt) i ∷ (each 5 (lit< tt) i ∷ (each 6 (lit< tt) i ∷ (each 7 (lit< tt) i ∷ []))))))))
