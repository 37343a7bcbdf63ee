use Rattle.std.proofs.Common.{length}
use Rattle.wire_theory.specs.Shapes.{EntriesShape}
use Rattle.wire.proofs.parts.all_certificates.Given as goal

abbrev pub invariant-loop-fields : goal.invariant-loop-fields
invariant-loop-fields l = (EntriesShape l.fn.fields → EntriesShape l.fields) × (EntriesShape l.fields → EntriesShape l.fn.fields)

abbrev pub decreases-loop-fields : goal.decreases-loop-fields
decreases-loop-fields l = length l.fields
