use Rattle.std.proofs.Common.{◌≡◌, ◌++◌, drop}
use Rattle.replication_laws.specs.Events.{member_nudges}
use Rattle.stream_cluster.proofs.nudge.add_nudges.Given as goal

abbrev pub invariant-loop-seat : goal.invariant-loop-seat
invariant-loop-seat l = l.sent ++ member_nudges (drop l.seat-index l.seats) ≡ l.fn.sent ++ member_nudges l.seats
