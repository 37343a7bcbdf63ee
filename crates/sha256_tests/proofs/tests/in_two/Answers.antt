use Rattle.std.proofs.Common.{[], sym, ap, ◌∙◌}
use Rattle.sha256.specs.Standard.{digest}
use Rattle.sha256_tests.proofs.tests.in_two.Goals as goal

pub returns : goal.returns
returns c =
    c.finalize.ensures _ (c.update-2.ensures _ (c.update.ensures [] c.new-hasher.ensures)) ∙ ap digest (sym c.split_at.ensures.by_index.0)
