use Rattle.std.proofs.Common.{[]}
use Rattle.sha256.proofs.sha256.Goals as goal

pub returns : goal.returns
returns c = c.finalize.ensures c.args.message.now (c.update.ensures [] c.new-hasher.ensures)
