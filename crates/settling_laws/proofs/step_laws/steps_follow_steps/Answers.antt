use Rattle.settling_laws.proofs.Stepping.{none_yet, and_then}
use Rattle.settling_laws.proofs.step_laws.steps_follow_steps.Goals as goal

pub returns-clause-none : goal.returns-clause-none
returns-clause-none c = none_yet

pub returns-clause-more : goal.returns-clause-more
returns-clause-more c = and_then
