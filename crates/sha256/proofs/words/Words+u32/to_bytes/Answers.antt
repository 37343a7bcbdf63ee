use Rattle.std.proofs.Common.{◌≡◌, ◌+◌, ◌*◌, ◌/◌, ◌%◌, [], ◌∷◌, get_or, rules, ap₂, ◌∙◌, arith}
use Rattle.sha256.specs.Standard.{bytes32, output}
use Rattle.sha256.proofs.FromFn.{made_at}
use Rattle.sha256.proofs.Pasted.{by_fours}
use Rattle.sha256.proofs.words.Words+u32.to_bytes.Goals as goal

pub returns : goal.returns
unfolding output
returns c =
    let s = c.args.self in
    let ws = s.a ∷ s.b ∷ s.c ∷ s.d ∷ s.e ∷ s.f ∷ s.g ∷ s.h ∷ [] in
    by_fours ws c.from_fn.result c.from_fn.ensures.items.long
    (λ i j u v. let word : (4 * i + j) / 4 ≡ i = omega arith in
    let byte : (4 * i + j) % 4 ≡ j = omega arith in
    made_at _ (λ k y. y ≡ get_or (bytes32 (get_or ws (k / 4) 0)) (k % 4) 0) _ (λ k y q e. search rules) c.from_fn.result 32 (4 * i + j) 0 (omega arith) c.from_fn.ensures.items
    ∙ ap₂ (λ w b. get_or (bytes32 (get_or ws w 0)) b 0) word byte)
