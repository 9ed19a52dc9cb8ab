use Rattle.cluster_core.proofs.Sending.{electors_told}
use Rattle.cluster_core.proofs.laws.electors_are_told_to_follow.Goals as goal

pub returns : goal.returns
returns c = electors_told
