use Rattle.settling_laws.proofs.Resting.{none_waits}
use Rattle.settling_laws.proofs.complete_laws.no_claim_waits.Goals as goal

pub returns : goal.returns
returns g c = λ opened epoch leader end w. none_waits g.C.Claim.says opened epoch leader end w
