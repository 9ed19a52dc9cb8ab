use Rattle.list_machine.proofs.Waiting.{its_list}
use Rattle.list_machine.proofs.laws.inspections_look_at_the_list.Goals as goal

pub returns : goal.returns
returns c = λ number before behind new run. its_list number before behind new run
