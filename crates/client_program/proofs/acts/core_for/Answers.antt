use Rattle.client_program.proofs.ActLaws.{no_memory}
use Rattle.client_program.proofs.acts.core_for.Goals as goal

pub returns-in_default : goal.returns-in_default
returns-in_default c = no_memory _ _
