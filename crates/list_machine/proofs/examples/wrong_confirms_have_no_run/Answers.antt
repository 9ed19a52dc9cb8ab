use Rattle.list_machine.proofs.NoRuns.{no_run_early, no_run_confirmed_twice, no_run_undeclared, no_run_above}
use Rattle.list_machine.proofs.examples.wrong_confirms_have_no_run.Goals as goal

pub returns-clause-early : goal.returns-clause-early
returns-clause-early c = no_run_early

pub returns-clause-twice : goal.returns-clause-twice
returns-clause-twice c = no_run_confirmed_twice

pub returns-clause-undeclared : goal.returns-clause-undeclared
returns-clause-undeclared c = no_run_undeclared

pub returns-clause-above : goal.returns-clause-above
returns-clause-above c = no_run_above
