-- The invariants of authorities hold.
use Rattle.parties.proofs.AuthorityInvariants.{authority_invariants_hold}
use Rattle.parties.proofs.authority_invariants_hold.Goals as goal

pub returns : goal.returns
returns c = authority_invariants_hold
