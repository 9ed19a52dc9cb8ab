use Rattle.settling_laws.proofs.Opening.{election_opens}
use Rattle.settling_laws.proofs.complete_laws.an_election_opens.Goals as goal

pub returns : goal.returns
returns c = λ opened now epoch reigns w w' sound order some all next s. election_opens opened epoch now reigns w w' sound order some all next s.turns s.steps s.ends
