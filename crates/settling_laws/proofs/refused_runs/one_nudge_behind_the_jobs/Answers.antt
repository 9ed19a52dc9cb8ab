use Rattle.settling_laws.proofs.Refused.{nudged_once, jobs_come_first}
use Rattle.settling_laws.proofs.refused_runs.one_nudge_behind_the_jobs.Goals as goal

pub returns-clause-again : goal.returns-clause-again
returns-clause-again c = nudged_once

pub returns-clause-early : goal.returns-clause-early
returns-clause-early c = jobs_come_first
