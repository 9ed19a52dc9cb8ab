use Rattle.cluster_core.proofs.Deliveries.{taken_is, finished_is, hears_is}
use Rattle.cluster_core.proofs.event_laws.what_was_shared_is_enough.Goals as goal

pub returns : goal.returns
returns c = record { taken = taken_is; finished = finished_is; heard = hears_is }
