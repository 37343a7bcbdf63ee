-- The words of a line: what stands between blanks, before a comment. Assumes nothing.
use Rattle.std.specs.Prelude.{ℕ, Bool, true, cond, ◌||◌, List, [], ◌∷◌, ◌==◌}

-- a space, a tab, or a carriage return
abbrev pub blank : ℕ → Bool
blank b = b == 32 || (b == 9 || b == 13)

-- what stands before the first '#'
unfoldable pub spoken : List ℕ → List ℕ
spoken [] = []
spoken (b ∷ s) = cond (b == 35) [] (b ∷ spoken s)

-- no word goes on here
abbrev pub ends : List ℕ → Bool
ends [] = true
ends (b ∷ s) = blank b

abbrev pub longer : ℕ → List (List ℕ) → List (List ℕ)
longer b [] = (b ∷ []) ∷ []
longer b (w ∷ ws) = (b ∷ w) ∷ ws

unfoldable pub words : List ℕ → List (List ℕ)
words [] = []
words (b ∷ s) = cond (blank b) (words s) (cond (ends s) ((b ∷ []) ∷ words s) (longer b (words s)))
