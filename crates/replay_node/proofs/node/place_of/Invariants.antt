use Rattle.std.proofs.Common.{◌≡◌, take, None}
use Rattle.replay_node.specs.NodeState.{find_link}
use Rattle.replay_node.proofs.node.place_of.Given as goal

abbrev pub invariant-loop-k : goal.invariant-loop-k
invariant-loop-k l = find_link l.number (take l.k l.links) ≡ None
