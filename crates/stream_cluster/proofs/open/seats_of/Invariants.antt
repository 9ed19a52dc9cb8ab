use Rattle.std.proofs.Common.{◌≡◌, ◌+◌, ◌++◌, length, map, vec_len}
use Rattle.replication_laws.specs.Openings.{start_seats}
use Rattle.stream_cluster.specs.Opens.{start_of}
use Rattle.stream_cluster.proofs.Opening.{Left}
use Rattle.stream_cluster.proofs.open.seats_of.Given as goal

abbrev pub invariant-starts : goal.invariant-starts
invariant-starts l = record {
  left : Left (length l.seats.items) l.left.items;
  seats : l.seats.items ++ start_seats l.members (length l.seats.items + 1) (map start_of l.left.items) ≡ start_seats l.members 1 (map start_of l.fn.starts);
}

abbrev pub decreases-starts : goal.decreases-starts
decreases-starts l = vec_len l.left
