use Rattle.std.proofs.Common.{◌≡◌, take, vec_items}
use Rattle.std.specs.List.{flat_map}
use Rattle.wire_theory.specs.Bytes.{big}
use Rattle.wire_write.proofs.owned.OwnedList.serial_bytes.Given as goal

abbrev pub invariant-loop-serial : goal.invariant-loop-serial
invariant-loop-serial l = vec_items l.bytes ≡ flat_map (big 8) (take l.serial-index (vec_items l.self.serials))
