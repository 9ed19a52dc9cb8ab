use Rattle.std.proofs.Common.{length, ◌-◌}
use Rattle.stream_cluster.proofs.Opening.{AgreeBefore}
use Rattle.stream_cluster.proofs.whole.refuse_diverged.Given as goal

abbrev pub invariant-places : goal.invariant-places
invariant-places l = AgreeBefore l.starts l.place

abbrev pub decreases-places : goal.decreases-places
decreases-places l = length l.starts - l.place
