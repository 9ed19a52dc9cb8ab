use Rattle.std.proofs.Common.{◌≡◌, take}
use Rattle.replay_node.specs.NodeState.{ids}
use Rattle.replay_node.proofs.output.ids_of.Given as goal

abbrev pub invariant-loop-item : goal.invariant-loop-item
invariant-loop-item l = l.found ≡ ids (take l.item-index l.items)
