use Rattle.list_machine.specs.Machines.{empty_machine}
use Rattle.list_machine.proofs.Firsts.{disciplined_of}
use Rattle.list_machine.proofs.Running.{stream_run, once}
use Rattle.list_machine.proofs.laws.confirmed_stand_once.Goals as goal

pub returns-clause-moves : goal.returns-clause-moves
returns-clause-moves c = λ events new number run. stream_run number empty_machine events new run

pub returns-clause-once : goal.returns-clause-once
returns-clause-once c = λ name list moves new run disciplined. once name list moves new run (disciplined_of name list moves new run disciplined)

pub returns-clause-known : goal.returns-clause-known
returns-clause-known c = λ name list moves new run disciplined. once name list moves new run disciplined
