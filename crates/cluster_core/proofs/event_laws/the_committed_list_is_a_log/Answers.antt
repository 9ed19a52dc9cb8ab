use Rattle.cluster_core.proofs.Streams.{committed_log, committed_truthful}
use Rattle.cluster_core.proofs.event_laws.the_committed_list_is_a_log.Goals as goal

pub returns : goal.returns
returns c = record { log = committed_log; truthful = committed_truthful }
