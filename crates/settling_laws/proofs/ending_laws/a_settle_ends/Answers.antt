use Rattle.settling_laws.proofs.Ending.{goes_further, no_endless}
use Rattle.settling_laws.proofs.ending_laws.a_settle_ends.Goals as goal

pub returns-clause-goes_on : goal.returns-clause-goes_on
returns-clause-goes_on c = goes_further

pub returns-clause-ends : goal.returns-clause-ends
returns-clause-ends c = no_endless
