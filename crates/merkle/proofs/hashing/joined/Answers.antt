use Rattle.std.proofs.Common.{◌++◌, replicate, refl, ◌∙◌, ap₂}
use Rattle.merkle.proofs.Rows.{second_written}
use Rattle.merkle.proofs.hashing.joined.Goals as goal

pub returns : goal.returns
returns c =
    second_written c.copy_from_slice.new.self (replicate 32 0) c.copy_from_slice-2.new.self c.copy_from_slice.ensures.len refl
    ∙ ap₂ ◌++◌ c.copy_from_slice.ensures.after c.copy_from_slice-2.ensures.after
