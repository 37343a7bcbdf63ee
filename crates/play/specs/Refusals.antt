-- The numbers of refusals, and what a tree's refusal is here. Assumes nothing.
use Rattle.std.specs.Prelude.{ℕ, Some, None, Option}
use Rattle.merkle_tree.specs.declared.error.TreeError.{TreeError}
use Rattle.merkle_tree.specs.declared.error.TreeError.TheVariants as tree
use Rattle.play.specs.declared.answer.Refusal.{Refusal}
use Rattle.play.specs.declared.answer.Refusal.TheVariants.{NotThere, Elsewhere, NoMemory}

abbrev pub number : Refusal → Option ℕ
number NotThere = Some 2
number Elsewhere = Some 6
number NoMemory = None

abbrev pub refused : TreeError → Refusal
refused tree.NotThere = NotThere
refused tree.NoMemory = NoMemory
