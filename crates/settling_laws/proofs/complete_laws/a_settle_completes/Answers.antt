use Rattle.settling_laws.proofs.Nudging.{settle_complete, works_leads}
use Rattle.settling_laws.proofs.Voting.{election_complete}
use Rattle.settling_laws.proofs.complete_laws.a_settle_completes.Goals as goal

pub returns-clause-running : goal.returns-clause-running
returns-clause-running c = λ opened now epoch leader reigns w w' sound order runs led s behind most. settle_complete opened epoch leader now reigns w w' sound order runs led s.turns s.steps s.ends behind most

pub returns-clause-electing : goal.returns-clause-electing
returns-clause-electing c = λ opened now epoch leader reigns w w' sound order next s behind most. election_complete opened epoch leader now reigns w w' sound order next s.turns s.steps s.ends behind most

pub returns-clause-working : goal.returns-clause-working
returns-clause-working c = works_leads
