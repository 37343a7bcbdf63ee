use Rattle.sha256.proofs.Lanewise.{its, splat, both}
use Rattle.sha256.proofs.word.U32x4Word.shifted.Goals as goal

pub returns : goal.returns
returns c = λ l h. (both l h _ (its l h c.args.self c.fits-self.0) (splat l h c.args.n)).is
