use Rattle.sha256.proofs.Lanewise.{its, both, each}
use Rattle.sha256.proofs.word.U32x4Word.choose.Goals as goal

pub returns : goal.returns
returns c =
    λ l h. let x = its l h c.args.self c.fits-self.0 in
    (both l h _ (both l h _ x (its l h c.args.y c.fits-y.0)) (both l h _ (each l h _ x) (its l h c.args.z c.fits-z.0))).is
