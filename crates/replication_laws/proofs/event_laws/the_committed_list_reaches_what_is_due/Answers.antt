use Rattle.replication_laws.proofs.event_laws.the_committed_list_reaches_what_is_due.Goals as goal

pub returns : goal.returns
returns c opened k w s = s.reached k
