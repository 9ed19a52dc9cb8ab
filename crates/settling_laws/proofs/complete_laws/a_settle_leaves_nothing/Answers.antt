use Rattle.settling_laws.proofs.Refused.{settle_leaves}
use Rattle.settling_laws.proofs.complete_laws.a_settle_leaves_nothing.Goals as goal

pub returns : goal.returns
returns c = settle_leaves
