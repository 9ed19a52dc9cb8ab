use Rattle.cluster_core.proofs.Seeing.{moves}
use Rattle.cluster_core.proofs.event_laws.steps_are_moves.Goals as goal

pub returns : goal.returns
returns c = moves
