use Rattle.list_machine.proofs.Ends.{behind_the_end}
use Rattle.list_machine.proofs.laws.nothing_comes_behind_the_end.Goals as goal

pub returns : goal.returns
returns k = λ before behind c how old new run. behind_the_end before behind c how old new run
