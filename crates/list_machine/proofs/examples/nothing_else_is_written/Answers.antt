use Rattle.list_machine.specs.Machines.{fresh}
use Rattle.list_machine.specs.Wrongs.{ended_connection}
use Rattle.list_machine.proofs.Refusing.{no_step, not_owed, no_frame, no_end, no_handling}
use Rattle.list_machine.proofs.examples.nothing_else_is_written.Goals as goal

pub returns-clause-not_owed : goal.returns-clause-not_owed
returns-clause-not_owed c = λ s. no_step s fresh _ (not_owed s)

pub returns-clause-frame : goal.returns-clause-frame
returns-clause-frame c = λ s command. no_step s ended_connection _ (no_frame s command)

pub returns-clause-end : goal.returns-clause-end
returns-clause-end c = λ s how. no_step s ended_connection _ (no_end s how)

pub returns-clause-handling : goal.returns-clause-handling
returns-clause-handling c = λ s command answer. no_step s ended_connection _ (no_handling s command answer)
