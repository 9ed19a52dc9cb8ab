use Rattle.std.proofs.Common.{deque_len}
use Rattle.stream_client.proofs.Arrivals.{Arriving}
use Rattle.stream_client.proofs.receiving.add_entries.Given as goal

abbrev pub invariant-entries : goal.invariant-entries
invariant-entries l = Arriving l.fn.out l.out l.wanted l.first l.offset l.fn.entries.items l.left.items

abbrev pub decreases-entries : goal.decreases-entries
decreases-entries l = deque_len l.left
