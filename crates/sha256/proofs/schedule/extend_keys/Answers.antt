-- First the other words of the schedule, then the constants to all.
use Rattle.std.proofs.Common.{◌≡◌, ℕ, set, ◌+◌, ◌-◌, ◌*◌, length, get_or, sym, refl, ap, ◌∙◌, ap₂, arith, length-set}
use lib.ListN.{length-map}
use Rattle.std.proofs.lemmas.List.{get_or-take}
use Rattle.sha256.specs.Standard.{◌⊞◌, K, schedule}
use Rattle.sha256.specs.Steps.{column}
use Rattle.sha256.specs.declared.constants.TheConstants.{CONSTANTS}
use Rattle.sha256.proofs.Lanewise.{splat, column_set, column_at}
use Rattle.sha256.proofs.Scheduled.{schedule_all, made_none, made_then, made_more, keys_left, keys_more, keys_all}
use Rattle.sha256.proofs.schedule.extend_keys.Goals as goal

constants_are : (t : ℕ) → get_or CONSTANTS t 0 ≡ get_or K t 0
unfolding K
constants_are t = refl

pub loop-i-init : goal.loop-i-init
loop-i-init c = made_none _ _ _ refl c.told-keys

pub loop-j-init : goal.loop-j-init
loop-j-init c = made_none _ _ _ (omega arith) c.loop-i.invariant.long

pub loop-j-preserved : goal.loop-j-preserved
loop-j-preserved c =
    let w = c.loop-j.keys in
    let t = 16 + 8 * c.loop-i.i + c.loop-j.j in
    let long = c.loop-j.invariant.long in
    made_more _ t _ _ w c.next_word.result (omega arith) (omega arith) (omega arith) c.loop-j.invariant
    (λ l h. c.next_word.ensures l h
    ∙ rw (column_at l w (t - 2) _ (omega arith), column_at l w (t - 7) _ (omega arith), column_at l w (t - 15) _ (omega arith), column_at l w (t - 16) _ (omega arith)))

pub loop-i-preserved : goal.loop-i-preserved
loop-i-preserved c = made_then _ _ _ _ _ _ _ (omega arith) c.loop-i.invariant c.loop-j.invariant

pub loop-t-init : goal.loop-t-init
loop-t-init c = (c.loop-i.invariant.long, λ i h b e. refl)

pub loop-t-preserved : goal.loop-t-preserved
loop-t-preserved c =
    let was = c.loop-i.keys in
    let w = c.loop-t.keys in
    let t = c.loop-t.t in (
      simp length-set c.loop-t.invariant.0,
      λ i h b e. let long : length (column i was) ≡ 65 = simp length-map c.loop-i.invariant.long in
          let so_far = c.loop-t.invariant.1 i h b e in
          let word : get_or (column i was) t 0 ≡ get_or (schedule 48 b) t 0 = sym (get_or-take 64 (column i was) t 0 c.loop-t-test.true) ∙ ap (λ v. get_or v t 0) e in
          column_set i w t c.sum.result
          ∙ keys_more b (column i was) long (column i w) t _ c.loop-t-test.true so_far
          (c.sum.ensures i h
          ∙ ap₂ ◌⊞◌ ((splat i h _).is ∙ constants_are _) (column_at i w t _ (omega arith) ∙ keys_left b (column i was) long (column i w) t c.loop-t-test.true so_far ∙ word)
          ),
    )

pub returns : goal.returns
returns c =
    let was = c.loop-i.keys in
    let n = 8 * c.args.from in
    let so-many : n ≡ 16 + n - 16 = omega arith in
    let made = c.loop-i.invariant in
    λ i h b e. column_set i c.loop-t.keys 64 _ ∙ ap (set (column i c.loop-t.keys) 64) (splat i h 0).is
    ∙ keys_all b (column i was) (simp length-map made.long) (column i c.loop-t.keys) c.loop-t.t (omega arith)
    (c.loop-t.invariant.1 i h b (schedule_all b (column i was) (16 + 8 * c.loop-i.i) (omega arith) (made.words i h b (e ∙ ap (λ k. schedule k b) so-many))))
