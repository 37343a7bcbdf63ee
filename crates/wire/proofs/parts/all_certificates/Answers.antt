use Rattle.std.proofs.Common.{length, ap}
use Rattle.wire_theory.proofs.Follows.{behind_first, entries_begin, fewer_behind, no_entries}
use Rattle.wire.proofs.Begun.{first_begins, not_empty}
use Rattle.wire.proofs.parts.all_certificates.Goals as goal

pub returns-in_err-certificate : goal.returns-in_err-certificate
returns-in_err-certificate c = rw c.from_residual.ensures (λ all. c.in_err-certificate.ensures (first_begins _ (entries_begin _ (not_empty _ c.loop-fields-test.ensures) (c.loop-fields.invariant.0 all))))

pub loop-fields-smaller : goal.loop-fields-smaller
loop-fields-smaller c = let h = c.in_ok-certificate.ensures in fewer_behind _ _ _ h.1 h.0

pub loop-fields-preserved : goal.loop-fields-preserved
loop-fields-preserved c =
    let h = c.in_ok-certificate.ensures in
    let step = behind_first _ _ _ h.1 h.0 in
    (λ all. step.0 (c.loop-fields.invariant.0 all), λ rest. c.loop-fields.invariant.1 (step.1 rest))

pub returns : goal.returns
returns c = c.loop-fields.invariant.1 (no_entries _ (ap length c.loop-fields-test.ensures))
