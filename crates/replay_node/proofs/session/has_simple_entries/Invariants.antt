use Rattle.std.proofs.Common.{◌≡◌, drop}
use Rattle.replay_node.specs.Sessions.{are_simple}
use Rattle.replay_node.proofs.session.has_simple_entries.Given as goal

abbrev pub invariant-loop-item : goal.invariant-loop-item
invariant-loop-item l = are_simple l.items ≡ are_simple (drop l.item-index l.items)
