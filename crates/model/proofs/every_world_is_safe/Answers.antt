-- The guarantees hold.
use Rattle.model.proofs.Safe.{every_world_is_safe}
use Rattle.model.proofs.every_world_is_safe.Goals as goal

pub returns : goal.returns
returns c = every_world_is_safe
