use Rattle.list_machine.specs.Machines.{empty_machine}
use Rattle.list_machine.specs.Steps.{moves_at}
use Rattle.list_machine.proofs.Telling.{told}
use Rattle.list_machine.proofs.Running.{stream_run, holds, deliveries}
use Rattle.list_machine.proofs.laws.deliveries_are_runs.Goals as goal

pub returns-clause-told : goal.returns-clause-told
returns-clause-told c = λ events new number run. told (moves_at number empty_machine events new run) (new.streams number) (stream_run number empty_machine events new run)

pub returns-clause-runs : goal.returns-clause-runs
returns-clause-runs c = λ events new number run. deliveries (new.streams number) (holds events new number run)
