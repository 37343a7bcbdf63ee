use Rattle.std.proofs.Common.{rules}
use Rattle.std.proofs.Common.{ltb, MatchBool}
use Rattle.wire_theory.specs.Messages.{Rising}
use Rattle.wire.specs.Views.{serials_left}
use Rattle.wire.proofs.Cut.{found_rising, is_rising}
use Rattle.wire.proofs.parts.rising.Goals as goal

pub returns-then-bytes-eq0 : goal.returns-then-bytes-eq0
returns-then-bytes-eq0 c =
    let run = c.is_sorted_by.ensures.runs in
    let rises : MatchBool c.is_sorted_by.result (Rising (serials_left c.iter.result)) (Rising (serials_left c.iter.result) → ⊥) =
    found_rising c.iter.result _ run.0 run.1 run.2.0 (run.2.1 ltb (λ x y r q k. search rules)) in
    is_rising c.args.bytes.now _ (λ i. search rules) c.if-bytes-eq0.true (rw c.iter.ensures at rises)
