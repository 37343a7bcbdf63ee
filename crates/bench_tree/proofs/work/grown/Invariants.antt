use Rattle.std.proofs.Common.{◌≡◌}
use Rattle.merkle_tree.specs.View.{leaves_of}
use Rattle.bench_tree.specs.Entries.{leaves_to}
use Rattle.bench_tree.proofs.work.grown.Given as goal

abbrev pub invariant-loop-place : goal.invariant-loop-place
invariant-loop-place l = leaves_of l.tree ≡ leaves_to l.place
