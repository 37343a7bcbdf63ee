-- What a closure that changes nothing makes of each index.
use Rattle.std.proofs.Common.{◌≡◌, ℕ, zero, suc, ◌+◌, ◌<◌, List, get_or, sym, subst, add-zero, arith}
use Rattle.std.specs.Array.{IsFromFnResult, IsFromFnResultFrom}
use denote.Param.Members.{Mut, Called}

module _ {F B : Type 0} (g : Mut F (ℕ × Unit {0}) B) (P : ℕ → B → Type 0) (f : F) (step : (i : ℕ) (y : B) (q : F) → Called g f (i, tt) y q → P i y × (q ≡ f)) where
  made_from : (ys : List B) (i n k : ℕ) (e : B) → k < n → IsFromFnResultFrom g f ys i n → P (i + k) (get_or ys (i + k) e)
  made_from ys i zero k e l h = absurd (omega arith)
  made_from ys i (suc n) zero e l (q, y, at, call, rest) =
      subst (λ j. P j (get_or ys j e)) (sym (add-zero i)) (subst (P i) (sym (at.1 e)) (step i y q call).0)
  made_from ys i (suc n) (suc k) e l (q, y, at, call, rest) =
      let place : i + 1 + k ≡ i + suc k = omega arith in
      subst (λ j. P j (get_or ys j e)) place (made_from ys (i + 1) n k e (omega arith) (subst (λ s. IsFromFnResultFrom g s ys (i + 1) n) (step i y q call).1 rest))

  pub made_at : (ys : List B) (n k : ℕ) (e : B) → k < n → IsFromFnResult g f ys n → P k (get_or ys k e)
  made_at ys n k e l h =
      let place : 0 + k ≡ k = omega arith in
      subst (λ j. P j (get_or ys j e)) place (made_from ys 0 n k e l h.each)
