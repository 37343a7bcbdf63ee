use Rattle.std.proofs.Common.{◌≡◌}
use Rattle.bench_hash.specs.Steps.{times}
use Rattle.bench_hash.proofs.chains.Chains.after.Given as goal

abbrev pub invariant-loop-done : goal.invariant-loop-done
invariant-loop-done g l = l.chains ≡ times l._done l.initial.chains
