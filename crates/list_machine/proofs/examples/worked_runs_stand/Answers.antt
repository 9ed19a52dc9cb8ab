use Rattle.list_machine.proofs.Worked.{worked, large, doubted}
use Rattle.list_machine.proofs.Session.{session_run}
use Rattle.list_machine.proofs.examples.worked_runs_stand.Goals as goal

pub returns-clause-worked : goal.returns-clause-worked
returns-clause-worked c = (_, worked)

pub returns-clause-large : goal.returns-clause-large
returns-clause-large c = (_, large)

pub returns-clause-doubted : goal.returns-clause-doubted
returns-clause-doubted c = (_, doubted)

pub returns-clause-session : goal.returns-clause-session
returns-clause-session c = (_, session_run)
