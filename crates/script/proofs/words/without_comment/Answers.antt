use Rattle.std.proofs.Common.{◌≡◌, ℕ, List, Some, None, Option, sym, ◌∙◌, true≢false, eqb, rules, Bor, MatchOption}
use Rattle.std.specs.Option.{unwrap_or}
use Rattle.std.specs.Slice.Iter.{split_rest}
use Rattle.std.proofs.lemmas.List.Sorted.{answers_always}
use Rattle.script.specs.Words.{spoken}
use Rattle.script.proofs.Cuts.{spoken_split}
use Rattle.script.proofs.words.without_comment.Goals as goal

-- a split always gives a first part
first_part : (r : Option (Bor (List ℕ))) (line : Bor (List ℕ)) (N : Type 0) (P : Bor (List ℕ) → Type 0) (F : List ℕ → Type 0) → MatchOption r N P → (N → ⊥) →
    ((x : Bor (List ℕ)) → P x → F x.now) → F (unwrap_or r line).now
first_part None line N P F m none some = absurd (none m)
first_part (Some x) line N P F m none some = some x m

pub returns : goal.returns
returns c =
    rw c.unwrap_or.ensures
    (first_part c.next.result c.args.line _ _ (λ x. x ≡ spoken c.args.line.now) c.next.ensures.steps
    (λ none. true≢false (sym none.0 ∙ c.split.ensures.done))
    (λ x one.
    let all : split_rest c.split.result ≡ c.args.line.now = c.split.ensures.rest in
    rw (sym all) (sym (spoken_split x.now _ _ _ (one.1, (one.2 (λ b. eqb b 35) (answers_always _ _ _ (λ f a r g called. search rules))).1)))))
