use Rattle.list_machine.proofs.Running.{holds, rows_right}
use Rattle.list_machine.proofs.laws.rows_are_right.Goals as goal

pub returns : goal.returns
returns c = λ events new number run. rows_right (new.streams number) (holds events new number run)
