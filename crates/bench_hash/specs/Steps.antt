-- The next digests of four chains, and those after many steps. Assumes nothing.
use Rattle.std.specs.Prelude.{ℕ, zero, suc}
use Rattle.merkle.specs.Digests.{node_of}
use Rattle.bench_hash.specs.declared.chains.Chains.{Chains}

abbrev pub stepped : Chains → Chains
stepped s = record { a = node_of s.a s.a; b = node_of s.b s.b; c = node_of s.c s.c; d = node_of s.d s.d }

abbrev pub times : ℕ → Chains → Chains
times zero s = s
times (suc n) s = stepped (times n s)
