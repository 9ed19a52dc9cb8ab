use Rattle.cluster_core.proofs.Begins.{taken_commits, finished_commits}
use Rattle.cluster_core.proofs.laws.what_is_committed_stands_ahead.Goals as goal

pub returns : goal.returns
returns c = record { taken = taken_commits; finished = finished_commits }
