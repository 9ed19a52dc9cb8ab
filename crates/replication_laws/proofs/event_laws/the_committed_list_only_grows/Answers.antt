use Rattle.replication_laws.proofs.Joined.{step_grows, steps_grow}
use Rattle.replication_laws.proofs.event_laws.the_committed_list_only_grows.Goals as goal

pub returns : goal.returns
returns c = record { step = step_grows; run = steps_grow }
