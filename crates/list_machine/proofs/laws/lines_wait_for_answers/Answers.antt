use Rattle.list_machine.specs.Machines.{empty_machine}
use Rattle.list_machine.proofs.Waiting.{lines_wait}
use Rattle.list_machine.proofs.laws.lines_wait_for_answers.Goals as goal

pub returns-clause-runs : goal.returns-clause-runs
returns-clause-runs c = λ events old new run. lines_wait events old new run

pub returns-clause-transcripts : goal.returns-clause-transcripts
returns-clause-transcripts c = λ taken given t. (t.run, lines_wait t.events empty_machine t.machine t.run)
