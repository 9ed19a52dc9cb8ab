use Rattle.std.proofs.Common.{◌-◌, length}
use Rattle.member_core.specs.Kept.{IsKnown}
use Rattle.stream_cluster.proofs.index.Index.catch_up.Given as goal

abbrev pub invariant-chunks : goal.invariant-chunks
invariant-chunks l = IsKnown l.chunks l.self.count l.self.tracking

abbrev pub decreases-chunks : goal.decreases-chunks
decreases-chunks l = length l.chunks - l.self.count
