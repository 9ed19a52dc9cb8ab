use Rattle.replication_laws.proofs.Claims.{claim_made, claim_moves, claim_stays, given_within}
use Rattle.replication_laws.proofs.confirm_laws.claims_wait_and_stand.Goals as goal

pub returns : goal.returns
returns g c = record { made = claim_made g.C.Claim.says; moved = claim_moves g.C.Claim.says; stays = claim_stays g.C.Claim.says; within = given_within g.C.Claim.says }
