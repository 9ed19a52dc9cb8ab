use Rattle.cluster_core.proofs.Running.{runs, running_of}
use Rattle.cluster_core.proofs.laws.the_running_epoch.Goals as goal

pub returns : goal.returns
returns c = record { runs = runs; is = running_of }
