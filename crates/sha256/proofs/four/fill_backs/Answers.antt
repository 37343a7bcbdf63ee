-- The words of the block, then those of the schedule for which one of its zeros is looked up.
use Rattle.std.proofs.Common.{◌≡◌, ℕ, ◌-◌, ◌<◌, [], ◌∷◌, ◌++◌, get_or, replicate, rules, sym, refl, ap, ◌∙◌, arith, length-set}
use Rattle.std.proofs.lemmas.List.{get_or-take}
use Rattle.sha256.specs.Standard.{bytes64, schedule}
use Rattle.sha256.specs.Steps.{column}
use Rattle.sha256.proofs.Lanewise.{splat, column_at}
use Rattle.sha256.proofs.Nodes.{zero_word}
use Rattle.sha256.proofs.Scheduled.{schedule_first, begun_none, begun_more, begun_at, made_none, made_at, made_then, made_more}
use Rattle.sha256.proofs.four.fill_backs.Goals as goal

pub loop-t-init : goal.loop-t-init
loop-t-init c = begun_more 0 _ _ _ (omega arith) (begun_none _ _ c.told-keys) (λ l h. let e = c.side_by_side.ensures l h in search rules)

pub loop-t-preserved : goal.loop-t-preserved
loop-t-preserved c =
    begun_more _ _ _ _ (omega arith) c.loop-t.invariant (λ l h. (splat l h 0).is ∙ zero_word _ _ (omega arith) c.loop-t-test.true)

pub loop-t-2-init : goal.loop-t-2-init
loop-t-2-init c =
    made_none 16 _ _ (omega arith) (simp length-set c.loop-t.invariant.long)

pub loop-t-2-preserved : goal.loop-t-2-preserved
unfolding schedule
loop-t-2-preserved c =
    let pairs = c.args.pairs.now in
    let w = c.loop-t-2.keys in
    let t = c.loop-t-2.t in
    let made = c.loop-t-2.invariant in
    let long = made.long in
    let begun = begun_more 15 _ _ _ (omega arith) (begun_at _ 15 _ _ (omega arith) c.loop-t.invariant) (λ i p. (splat i p 520).is) in
    let zeros : (l : ℕ) → l < 4 → 0 ≡ get_or (column l w) (t - 15) 0 =
    λ l h. let b = get_or (get_or pairs l []) 63 0 ∷ 0x80 ∷ (replicate 54 0 ++ bytes64 520) in
    zero_word (get_or (get_or pairs l []) 63 0) (t - 15) (omega arith) (omega arith)
    ∙ sym (sym (get_or-take t (column l w) (t - 15) 0 (omega arith)) ∙ ap (λ v. get_or v (t - 15) 0) (made.words l h b (begun.words l h)) ∙ schedule_first (t - 16) (t - 15) b (omega arith)) in
    made_more _ t _ _ w c.next_word.result (omega arith) (omega arith) refl made
    (λ l h. c.next_word.ensures l h
    ∙ rw (column_at l w (t - 2) _ (omega arith), column_at l w (t - 7) _ (omega arith), (splat l h 0).is ∙ zeros l h, column_at l w (t - 16) _ (omega arith)))

pub loop-t-3-init : goal.loop-t-3-init
loop-t-3-init c = made_none 30 _ _ (omega arith) c.loop-t-2.invariant.long

pub loop-t-3-preserved : goal.loop-t-3-preserved
loop-t-3-preserved c =
    let w = c.loop-t-3.keys in
    let t = c.loop-t-3.t in
    let long = c.loop-t-3.invariant.long in
    made_more _ t _ _ w c.next_word-in-loop-t-3.result (omega arith) (omega arith) refl c.loop-t-3.invariant
    (λ l h. c.next_word-in-loop-t-3.ensures l h
    ∙ rw (column_at l w (t - 2) _ (omega arith), column_at l w (t - 7) _ (omega arith), column_at l w (t - 15) _ (omega arith), column_at l w (t - 16) _ (omega arith)))

pub returns : goal.returns
unfolding schedule
returns c =
    let begun = begun_more 15 _ _ _ (omega arith) (begun_at _ 15 _ _ (omega arith) c.loop-t.invariant) (λ i p. (splat i p 520).is) in
    let made = made_then 16 30 _ 32 _ _ _ (omega arith) (made_at _ _ 30 _ _ (omega arith) c.loop-t-2.invariant) c.loop-t-3.invariant in
    record {
      long = λ l h. let e = c.side_by_side.ensures l h in search rules;
      filled = λ l h. c.extend_keys.ensures l h _ (made.words l h _ (begun.words l h));
    }
