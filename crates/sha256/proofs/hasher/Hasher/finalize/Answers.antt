use Rattle.std.proofs.Common.{◌∙◌, arith}
use Rattle.sha256.proofs.Ending.{finished}
use Rattle.sha256.proofs.hasher.Hasher.finalize.Goals as goal

pub returns-then-filled-lt56 : goal.returns-then-filled-lt56
returns-then-filled-lt56 c =
    λ m f. c.to_bytes.ensures
    ∙ finished m c.args.self f c.filled-filled.result 64 _ _ c.filled-filled.ensures (omega arith) c.padded_end.ensures c.compressed.ensures

pub returns : goal.returns
returns c =
    λ m f. c.to_bytes-2.ensures
    ∙ finished m c.args.self f c.filled-filled.result 128 _ _ c.filled-filled.ensures (omega arith) c.padded_end-2.ensures c.compressed-2.ensures
