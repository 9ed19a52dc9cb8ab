use Rattle.settling_laws.proofs.Evented.{step_event, settle_runs}
use Rattle.settling_laws.proofs.step_laws.settle_steps_are_events.Goals as goal

pub returns-clause-event : goal.returns-clause-event
returns-clause-event c = step_event

pub returns-clause-run : goal.returns-clause-run
returns-clause-run c = settle_runs
