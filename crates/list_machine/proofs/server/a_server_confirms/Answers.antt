use Rattle.list_machine.proofs.Leading.{may_confirm}
use Rattle.list_machine.proofs.Counting.{counted}
use Rattle.list_machine.proofs.server.a_server_confirms.Goals as goal

pub returns-clause-named : goal.returns-clause-named
returns-clause-named c = λ did old new items rows rest name run step is. may_confirm did old new items rows rest name run step is

pub returns-clause-counted : goal.returns-clause-counted
returns-clause-counted c = λ events new run counts. counted events new counts run
