use Rattle.settling_laws.proofs.Ending.{jobs_fall}
use Rattle.settling_laws.proofs.ending_laws.jobs_run_out.Goals as goal

pub returns : goal.returns
returns c = λ opened k a reigns w. jobs_fall opened w reigns a k
