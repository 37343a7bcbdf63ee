use Rattle.std.proofs.Common.{arith}
use Rattle.std.proofs.lemmas.Bool.Decides.{Decides-eqb}
use Rattle.wire_theory.proofs.Rows.{rows_long}
use Rattle.wire_write.proofs.Short.{all_digests, decided, given_where}
use Rattle.wire_write.proofs.sizes.evidence_size.Goals as goal

pub returns : goal.returns
returns c =
    let s = c.args.evidence.digests.bytes.now in
    given_where _ _ (decided _ (Decides-eqb _ _)) c.then_some.ensures
    (λ count. let all = all_digests s c.args.evidence.head.count count in (omega (arith, c.in_ok-size.ensures.0, c.in_ok-signed.ensures.0), record { sct = c.in_ok-size.ensures.1; head = c.in_ok-signed.ensures.1; count = all.0; digests = all.1 }, omega arith))
    (λ other whole fits. other (omega (arith, rows_long 32 s, fits.count)))
