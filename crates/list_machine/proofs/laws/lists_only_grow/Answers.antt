use Rattle.list_machine.proofs.Running.{list_is, holds, list_grows}
use Rattle.list_machine.proofs.laws.lists_only_grow.Goals as goal

pub returns-clause-is : goal.returns-clause-is
returns-clause-is c = λ events new number run. list_is number events new run

pub returns-clause-log : goal.returns-clause-log
returns-clause-log c = λ events new number run. (holds events new number run).list

pub returns-clause-grows : goal.returns-clause-grows
returns-clause-grows c = λ events old new number run. list_grows number events old new run
