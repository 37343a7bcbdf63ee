-- One lane of the words of several messages.
use Rattle.std.specs.Prelude.{◌≡◌, ℕ, List, slice_index}
use Rattle.sha256.specs.declared.words.Words as declared

abbrev pub lane_of : {W : Type 0} → (W → ℕ) → declared.Words W → declared.Words ℕ
lane_of lane s =
    record {
      a = lane s.a;
      b = lane s.b;
      c = lane s.c;
      d = lane s.d;
      e = lane s.e;
      f = lane s.f;
      g = lane s.g;
      h = lane s.h;
    }

-- what is read of four lanes has in its own lane what stands in lane m of the four
abbrev pub TakesLane : {W : Type 0} → (W → ℕ) → ℕ → (List ℕ → W → Type 0) → Type 0
TakesLane {W} lane m reads = (four : List ℕ) (w : W) → reads four w → lane w ≡ slice_index four m
