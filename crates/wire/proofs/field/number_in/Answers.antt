use Rattle.std.proofs.Common.{sym, ap, ◌∙◌, arith}
use Rattle.wire_theory.specs.Bytes.{number}
use Rattle.wire_theory.proofs.Numbers.{number_big}
use Rattle.wire.proofs.Cut.{eight_written}
use Rattle.wire.proofs.field.number_in.Goals as goal

pub returns-clause-value : goal.returns-clause-value
returns-clause-value c =
    let e = eight_written c.args.bytes.now c.from_be_bytes.result c.told-bytes c.fits-bytes c.from_be_bytes.ensures in
    sym (number_big 8 _ (omega (arith, c.from_be_bytes.type_inv))) ∙ ap number e

pub returns-clause-written : goal.returns-clause-written
returns-clause-written c = eight_written c.args.bytes.now c.from_be_bytes.result c.told-bytes c.fits-bytes c.from_be_bytes.ensures
