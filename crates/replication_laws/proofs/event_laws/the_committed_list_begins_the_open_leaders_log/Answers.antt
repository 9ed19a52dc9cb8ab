use Rattle.replication_laws.proofs.Joined.{committed_begins}
use Rattle.replication_laws.proofs.event_laws.the_committed_list_begins_the_open_leaders_log.Goals as goal

pub returns : goal.returns
returns c = committed_begins
