use Rattle.wire.proofs.Cut.{four_written}
use Rattle.wire.proofs.field.word_in.Goals as goal

pub returns : goal.returns
returns c = four_written c.args.bytes.now c.from_be_bytes.result c.told-bytes c.fits-bytes c.from_be_bytes.ensures
