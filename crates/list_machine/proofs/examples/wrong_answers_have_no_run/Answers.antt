use Rattle.list_machine.proofs.NoRuns.{no_run_not_owed, no_run_answered_twice}
use Rattle.list_machine.proofs.examples.wrong_answers_have_no_run.Goals as goal

pub returns-clause-not_owed : goal.returns-clause-not_owed
returns-clause-not_owed c = no_run_not_owed

pub returns-clause-twice : goal.returns-clause-twice
returns-clause-twice c = no_run_answered_twice
