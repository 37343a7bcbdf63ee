use Rattle.std.proofs.Common.{◌∙◌}
use Rattle.wire.proofs.Cut.{chunks_are_pieces}
use Rattle.wire.proofs.parts.pieces.Goals as goal

pub returns : goal.returns
returns g c = c.as_chunks.ensures.front ∙ chunks_are_pieces _ _ _
