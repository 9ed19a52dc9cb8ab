use Rattle.list_machine.proofs.NoRuns.{no_run_nobody_sent, no_run_passing}
use Rattle.list_machine.proofs.examples.wrong_rows_have_no_run.Goals as goal

pub returns-clause-nobody_sent : goal.returns-clause-nobody_sent
returns-clause-nobody_sent c = no_run_nobody_sent

pub returns-clause-passing : goal.returns-clause-passing
returns-clause-passing c = no_run_passing
