use Rattle.std.proofs.Common.{◌≡◌, length}
use Rattle.std.specs.Vec.Iter.{into_iter_items, into_iter_len}
use Rattle.replay_node.proofs.Serving.{ServesRest}
use Rattle.replay_node.proofs.session.serve_all.Given as goal

abbrev pub invariant-loop-command : goal.invariant-loop-command
invariant-loop-command l = record {
  so_far : ServesRest l.connection l.stream l.publishers l.fn.commands l.served (into_iter_items l.command-iterator);
  left : length (into_iter_items l.command-iterator) ≡ into_iter_len l.command-iterator;
}
