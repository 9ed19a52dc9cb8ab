use Rattle.list_machine.proofs.ServerWorked.{offers_run, election_run, stop_run, third_run, commits_next}
use Rattle.list_machine.proofs.server.a_server_at_work.Goals as goal

pub returns-clause-offers : goal.returns-clause-offers
returns-clause-offers c = offers_run

pub returns-clause-elects : goal.returns-clause-elects
returns-clause-elects c = election_run

pub returns-clause-stops : goal.returns-clause-stops
returns-clause-stops c = stop_run

pub returns-clause-goes_on : goal.returns-clause-goes_on
returns-clause-goes_on c = third_run

pub returns-clause-commits : goal.returns-clause-commits
returns-clause-commits c = commits_next
