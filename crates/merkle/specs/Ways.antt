-- The way down from the root, level by level, and the way up again. Assumes nothing.
use Rattle.std.specs.Prelude.{◌≡◌, ℕ, zero, suc, ◌+◌, ◌-◌, ◌*◌, ◌/◌, ◌%◌, ◌<◌, ◌≤◌, Bool, ◌⊎◌, List, [], ◌∷◌, ◌==◌}
use Rattle.merkle_theory.specs.Tree.{split}
use Rattle.merkle.specs.declared.way.Way.{Way}

-- the way to place m of n before its first level
abbrev pub AtRoot : ℕ → ℕ → Way → Type 0
AtRoot n m w = (w.count ≡ n) × (w.place ≡ m) × (w.levels ≡ 0) × (w.turns ≡ 0)

-- one level down from w, v is in the side that has the place
abbrev pub ToLeft : Way → Way → Type 0
ToLeft w v = (w.place < split w.count) × (v.count ≡ split w.count) × (v.place ≡ w.place) × (v.turns ≡ w.turns * 2) × (v.levels ≡ w.levels + 1)

abbrev pub ToRight : Way → Way → Type 0
ToRight w v = (split w.count ≤ w.place) × (v.count ≡ w.count - split w.count) × (v.place ≡ w.place - split w.count) × (v.turns ≡ w.turns * 2 + 1) × (v.levels ≡ w.levels + 1)

abbrev pub Below : Way → Way → Type 0
Below w v = ToLeft w v ⊎ ToRight w v

-- v is some levels down from w, and each way before it is one on which P holds
abbrev pub Downs : (Way → Type 0) → ℕ → Way → Way → Type 0
Downs P zero w v = v ≡ w
Downs P (suc k) w v = (u : Way) × Downs P k w u × P u × Below u v

abbrev pub Down : (Way → Type 0) → Way → Way → Type 0
Down P w v = (k : ℕ) × Downs P k w v

-- up again with the digests beside the way, the lowest first: by the lowest bit of the turns from the right side or the left
abbrev pub climbed : {D X : Type 0} → (Bool → D → X → X) → ℕ → List D → X → X
climbed raised turns [] x = x
climbed raised turns (p ∷ ps) x = climbed raised (turns / 2) ps (raised (turns % 2 == 1) p x)
