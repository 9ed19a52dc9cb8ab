use Rattle.list_machine.proofs.Giving.{were_given, rows_given}
use Rattle.list_machine.proofs.laws.items_were_given.Goals as goal

pub returns-clause-sent : goal.returns-clause-sent
returns-clause-sent c = λ events new number run. were_given events new number run

pub returns-clause-committed : goal.returns-clause-committed
returns-clause-committed c = λ name events new number run. rows_given name events new number run
