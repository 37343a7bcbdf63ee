-- What stands in the sides of a list, and a front that ends in the right one.
use Rattle.std.proofs.Common.{◌≡◌, ℕ, ◌+◌, ◌-◌, ◌<◌, ◌≤◌, List, [], ◌∷◌, ◌++◌, length, get_or, take, drop, sym, ap, ◌∙◌, arith, length-drop, length-take, get_or-drop, get_or-take, take-add}
use Rattle.merkle_theory.specs.Claims.{Stands}

-- a list is empty, one entry, or has two sides
pub data Shape {A : Type 0} : List A → Type 0 where
  none : Shape []
  one : (x : A) → Shape (x ∷ [])
  more : (xs : List A) → 2 ≤ length xs → Shape xs

pub shape : {A : Type 0} (xs : List A) → Shape xs
shape [] = none
shape (x ∷ []) = one x
shape (x ∷ (y ∷ ys)) = more (x ∷ (y ∷ ys)) (omega arith)

module _ {A : Type 0} (k : ℕ) (xs : List A) (m : ℕ) (x : A) where
  pub stands_in_front : m < k → Stands xs m x → Stands (take k xs) m x
  stands_in_front l (h, e) = (omega (arith, length-take k xs), λ d. get_or-take k xs m d l ∙ e d)

  pub stands_if_in_front : m < k → Stands (take k xs) m x → Stands xs m x
  stands_if_in_front l (h, e) = (omega (arith, length-take k xs), λ d. sym (get_or-take k xs m d l) ∙ e d)

  get_or_behind : k ≤ m → (d : A) → get_or (drop k xs) (m - k) d ≡ get_or xs m d
  get_or_behind l d = let there : k + (m - k) ≡ m = omega arith in get_or-drop k xs (m - k) d ∙ ap (λ i. get_or xs i d) there

  pub stands_behind : k ≤ m → Stands xs m x → Stands (drop k xs) (m - k) x
  stands_behind l (h, e) = (omega (arith, length-drop k xs), λ d. get_or_behind l d ∙ e d)

  pub stands_if_behind : k ≤ m → Stands (drop k xs) (m - k) x → Stands xs m x
  stands_if_behind l (h, e) = (omega (arith, length-drop k xs), λ d. sym (get_or_behind l d) ∙ e d)

pub take_over : {A : Type 0} (k m : ℕ) (ys : List A) → k ≤ m → take m ys ≡ take k ys ++ take (m - k) (drop k ys)
take_over k m ys h = let there : m ≡ k + (m - k) = omega arith in ap (λ i. take i ys) there ∙ take-add k (m - k) ys
