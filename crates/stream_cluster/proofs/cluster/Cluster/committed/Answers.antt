use Rattle.std.proofs.Common.{subst}
use Rattle.chunk_format.specs.Logs.{IsLog, Truthful}
use Rattle.cluster_core.proofs.Streams.{committed_log, committed_truthful}
use Rattle.stream_cluster.specs.Served.{ServedState}
use Rattle.stream_cluster.proofs.cluster.Cluster.committed.Goals as goal

pub returns-clause-is_log : goal.returns-clause-is_log
returns-clause-is_log c = subst (λ (s : ServedState). IsLog s.state.cluster.committed) c.self.view_is (committed_log c.self.inside.replicas.cluster c.self.invariant.0.stream)

pub returns-clause-truthful : goal.returns-clause-truthful
returns-clause-truthful c = subst (λ (s : ServedState). Truthful s.state.cluster.committed) c.self.view_is (committed_truthful c.self.inside.replicas.cluster c.self.invariant.0.stream)
