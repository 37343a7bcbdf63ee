-- The equations of the consistency proof.
use Rattle.merkle_theory.proofs.Laws.{consistency-is_from, consistency-of_whole, consistency-of_part, consistency_in_left, consistency_in_right}
use Rattle.merkle_theory.proofs.consistency_has_the_sides_beside.Goals as goal

pub returns : goal.returns
returns g c = λ H. record {
  is_from = consistency-is_from H;
  of_whole = consistency-of_whole H;
  of_part = consistency-of_part H;
  in_left = consistency_in_left H;
  in_right = consistency_in_right H;
}
