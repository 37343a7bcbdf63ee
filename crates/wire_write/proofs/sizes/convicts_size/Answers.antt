use Rattle.std.proofs.Common.{refl, arith}
use Rattle.std.proofs.lemmas.Bool.Decides.{Decides-eqb}
use Rattle.wire_theory.proofs.Rows.{rows_long}
use Rattle.wire_write.proofs.Short.{all_digests, decided, given_where}
use Rattle.wire_write.proofs.sizes.convicts_size.Goals as goal

pub returns : goal.returns
returns c =
    let s = c.args.digests.bytes.now in
    given_where _ _ (decided _ (Decides-eqb _ _)) c.then_some.ensures
    (λ count. let all = all_digests s c.args.head.count count in (refl, record { fits = (c.in_ok-size.ensures.1, all.0, all.1); sound = omega arith; copied = tt }))
    (λ other whole (h, count, fits). other (omega (arith, rows_long 32 s, count)))
