use Rattle.list_machine.proofs.Answering.{answers_once}
use Rattle.list_machine.proofs.laws.answers_are_written_once.Goals as goal

pub returns : goal.returns
returns k = λ events new c run. answers_once events new c run
