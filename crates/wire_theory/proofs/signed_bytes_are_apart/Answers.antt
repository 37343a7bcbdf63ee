use Rattle.wire_theory.proofs.Signed.{signed_apart}
use Rattle.wire_theory.proofs.signed_bytes_are_apart.Goals as goal

pub returns : goal.returns
returns c = signed_apart
