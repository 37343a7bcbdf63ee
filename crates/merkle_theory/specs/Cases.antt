-- Worked cases: the tree of seven entries, 0 to 6, with terms for digests. Assumes nothing.
use Rattle.std.specs.Prelude.{◌≡◌, ℕ, List, [], ◌∷◌}
use Rattle.std.specs.List.{AllByRecursion}
use Rattle.merkle_theory.specs.Tree.{root, path, consistency}
use Rattle.merkle_theory.specs.Terms.{Term, over_terms}
use Rattle.merkle_theory.specs.Terms.Term.{Leaf, Node}

abbrev pub entries : List ℕ
entries = 0 ∷ (1 ∷ (2 ∷ (3 ∷ (4 ∷ (5 ∷ (6 ∷ []))))))

-- the digest of one entry, and of entries that stand together
abbrev of : ℕ → Term ℕ
of x = Leaf x

abbrev first_two : Term ℕ
first_two = Node (of 0) (of 1)

abbrev first_four : Term ℕ
first_four = Node first_two (Node (of 2) (of 3))

abbrev last_three : Term ℕ
last_three = Node (Node (of 4) (of 5)) (of 6)

pub data Asked : Type 0 where
  TheRoot : Asked
  PathOf : ℕ → Asked
  ConsistencyFrom : ℕ → Asked

abbrev pub answer : Asked → List (Term ℕ)
answer TheRoot = root (over_terms ℕ) entries ∷ []
answer (PathOf m) = path (over_terms ℕ) m entries
answer (ConsistencyFrom m) = consistency (over_terms ℕ) m entries

pub record Row : Type 0 where
  pub asked : Asked
  pub expected : List (Term ℕ)

abbrev pub row : Asked → List (Term ℕ) → Row
row a e = record { asked = a; expected = e }

abbrev pub table : List Row
table =
    row TheRoot (Node first_four last_three ∷ []) ∷
    (row (PathOf 5) (first_four ∷ (of 6 ∷ (of 4 ∷ []))) ∷
    (row (ConsistencyFrom 3) (last_three ∷ (first_two ∷ (of 3 ∷ (of 2 ∷ [])))) ∷
    []))

abbrev pub CasesHold : Type 0
CasesHold = AllByRecursion (λ (r : Row). answer r.asked ≡ r.expected) table
