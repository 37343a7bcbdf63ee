use Rattle.std.proofs.Common.{◌-◌, ◌∷◌, ◌++◌, length, replicate, ap, ◌∙◌, arith}
use Rattle.sha256.proofs.Ending.{ended}
use Rattle.sha256.proofs.padding.padded_end.Goals as goal

pub returns : goal.returns
returns g c =
    let rest = c.args.rest.now in
    ended _ _ _ _ g.row.N (omega arith) (ap length c.to_be_bytes.ensures) c.put.ensures c.put-2.ensures
    ∙ ap (λ bits. rest ++ 0x80 ∷ replicate (g.row.N - 9 - length rest) 0 ++ bits) c.to_be_bytes.ensures
