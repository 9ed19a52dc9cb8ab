use Rattle.list_machine.proofs.Answering.{confirm_line, among_confirmed, delivery_line}
use Rattle.list_machine.proofs.laws.unasked_frames_are_steps.Goals as goal

pub returns-clause-confirms : goal.returns-clause-confirms
returns-clause-confirms k = λ c id ids before behind new run. confirm_line c id ids before behind new run

pub returns-clause-confirmed : goal.returns-clause-confirmed
returns-clause-confirmed k = λ c id ids before behind new run. among_confirmed c id ids before behind new run

pub returns-clause-deliveries : goal.returns-clause-deliveries
returns-clause-deliveries k = λ c id last header payload before behind new run. delivery_line c id last header payload before behind new run
