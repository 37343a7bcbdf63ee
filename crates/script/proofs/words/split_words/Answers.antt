use Rattle.std.proofs.Common.{◌≡◌, ℕ, ◌<◌, List, [], ◌∷◌, ◌++◌, map, length, take, drop, vec_items, sym, refl, ap, ◌∙◌, append-nil, arith, Bor, true-eqb, false-eqb}
use Rattle.script.specs.Words.{words}
use Rattle.script.proofs.Cuts.{first_word, one_word_more}
use Rattle.script.proofs.words.split_words.Goals as goal

pub loop-rest-init : goal.loop-rest-init
loop-rest-init c = (
  simp c.new-found.ensures.items (c.skip_blanks-rest.ensures.same ∙ ap words c.without_comment.ensures),
  c.skip_blanks-rest.ensures.first,
)

some_left : (c : goal.After-skip_blanks-rest-in-loop-rest) → 0 < length c.loop-rest.rest.now
some_left c = omega (arith, false-eqb _ 0 c.loop-rest-test.ensures)

word : (c : goal.After-skip_blanks-rest-in-loop-rest) → (0 < c.run.result) × (words c.loop-rest.rest.now ≡ take c.run.result c.loop-rest.rest.now ∷ words (drop c.run.result c.loop-rest.rest.now))
word c =
    let ran = c.run.ensures in
    first_word _ _ (some_left c) (c.loop-rest.invariant.1 (some_left c)) ran.within ran.all ran.stops

pub loop-rest-preserved : goal.loop-rest-preserved
loop-rest-preserved c =
    let next = c.skip_blanks-rest-in-loop-rest.ensures in
    let split = c.split_at.ensures in
    (one_word_more _ _ _ _ _ _ _ _ c.in_ok-push.ensures.items split.front split.back next.same (word c).1 c.loop-rest.invariant.0, next.first)

pub loop-rest-smaller : goal.loop-rest-smaller
loop-rest-smaller c = omega (arith, (word c).0, c.split_at.ensures.back_len, c.skip_blanks-rest-in-loop-rest.ensures.shorter, c.run.ensures.within)

nothing_left : (s : List ℕ) → length s ≡ 0 → words s ≡ []
unfolding words
nothing_left [] e = refl
nothing_left (b ∷ s) e = absurd (omega arith)

pub returns : goal.returns
returns c =
    let none = nothing_left c.loop-rest.rest.now (true-eqb _ 0 c.loop-rest-test.ensures) in
    sym (append-nil _) ∙ ap (λ t. map (λ (w : Bor (List ℕ)). w.now) (vec_items c.loop-rest.found) ++ t) (sym none) ∙ c.loop-rest.invariant.0
