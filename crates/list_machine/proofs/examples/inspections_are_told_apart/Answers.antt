use Rattle.list_machine.proofs.Waiting.{held_kept, down_kept, lost_told}
use Rattle.list_machine.proofs.examples.inspections_are_told_apart.Goals as goal

pub returns-clause-held : goal.returns-clause-held
returns-clause-held c = held_kept

pub returns-clause-down : goal.returns-clause-down
returns-clause-down c = down_kept

pub returns-clause-lost : goal.returns-clause-lost
returns-clause-lost c = lost_told
