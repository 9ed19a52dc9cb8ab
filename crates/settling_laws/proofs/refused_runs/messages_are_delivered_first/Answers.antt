use Rattle.settling_laws.proofs.Refused.{waits_on}
use Rattle.settling_laws.proofs.refused_runs.messages_are_delivered_first.Goals as goal

pub returns : goal.returns
returns c = waits_on
