use Rattle.std.proofs.Common.{◌-◌}
use Rattle.sha256.proofs.Lanewise.{its, splat, both}
use Rattle.sha256.proofs.word.U32x4Word.rotated.Goals as goal

pub returns : goal.returns
returns c =
    λ l h. let x = its l h c.args.self c.fits-self.0 in
    (both l h _ (both l h _ x (splat l h c.args.n)) (both l h _ x (splat l h (32 - c.args.n)))).is
