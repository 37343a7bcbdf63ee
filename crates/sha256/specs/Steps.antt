-- The form in which the code goes through the rounds: each word of the schedule has its constant added beforehand,
-- which makes it a key, and a key is added to `h` one round ahead.
use Rattle.std.specs.Prelude.{ℕ, zero, suc, List, [], ◌∷◌, ◌++◌, map, slice_index, slice_index_or}
use Rattle.std.specs.Simd.Lanes.{zip2}
use Rattle.sha256.specs.Standard.{Words, ◌⊞◌, CH, MAJ, BSIG0, BSIG1, K, schedule, plus}

-- the keys of a block, and the 0 that the last round adds ahead
unfoldable pub keys_of : List ℕ → List ℕ
keys_of bs = zip2 ◌⊞◌ K (schedule 48 bs) ++ 0 ∷ []

-- one lane of the keys of four blocks
abbrev pub column : ℕ → List (List ℕ) → List ℕ
column l ks = map (λ k. slice_index k l) ks

-- a round of words with its key in their `h` already, and the `h` that comes after it
unfoldable pub turned : Words → ℕ → Words
turned s h =
    let T1 = s.h ⊞ BSIG1 s.e ⊞ CH s.e s.f s.g in
    let T2 = BSIG0 s.a ⊞ MAJ s.a s.b s.c in
    record { a = T1 ⊞ T2; b = s.a; c = s.b; d = s.c; e = s.d ⊞ T1; f = s.e; g = s.f; h = h }

unfoldable pub with_h : Words → ℕ → Words
with_h s h = record { a = s.a; b = s.b; c = s.c; d = s.d; e = s.e; f = s.f; g = s.g; h = h }

-- n rounds, after which the key of the next is in `h`
unfoldable pub ahead : ℕ → List ℕ → Words → Words
ahead zero keys s = with_h s (s.h ⊞ slice_index_or keys 0 0)
ahead (suc n) keys s = let t = ahead n keys s in turned t (t.g ⊞ slice_index_or keys (suc n) 0)

-- the hash value after the blocks of the first n lanes
unfoldable pub under_lanes : ℕ → List (List ℕ) → Words → Words
under_lanes zero keys s = s
under_lanes (suc n) keys s = let t = under_lanes n keys s in plus t (ahead 64 (column n keys) t)
