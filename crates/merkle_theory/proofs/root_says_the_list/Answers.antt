-- The root says the list.
use Rattle.merkle_theory.proofs.Terms.{root-says}
use Rattle.merkle_theory.proofs.root_says_the_list.Goals as goal

pub returns : goal.returns
returns g c = root-says _
