-- Both ways between the functions and the rules.
use Rattle.merkle_theory.proofs.Follow.{climbs_if_leads, leads_if_climbs, joins_if_leads, leads_if_joins}
use Rattle.merkle_theory.proofs.following_goes_by_rules.Goals as goal

pub returns : goal.returns
returns g c = λ node. record {
  path = λ n m d ps r. (climbs_if_leads node n m d ps r, leads_if_climbs node);
  consistency = λ m n whole old ps e l. (joins_if_leads node m n whole old ps e l, leads_if_joins node);
}
