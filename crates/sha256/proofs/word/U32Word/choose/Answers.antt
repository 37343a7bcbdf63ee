use Rattle.std.proofs.Common.{arith}
use Rattle.sha256.proofs.Choosing.{choose_is}
use Rattle.sha256.proofs.word.U32Word.choose.Goals as goal

pub returns : goal.returns
returns c = λ l h. choose_is 32 c.args.self c.args.y c.args.z (omega arith) (omega arith) (omega arith)
