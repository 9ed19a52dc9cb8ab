use Rattle.std.proofs.Common.{◌≡◌, take}
use Rattle.replay_node.specs.NodeState.{entries}
use Rattle.replay_node.proofs.output.copy_entries.Given as goal

abbrev pub invariant-loop-item : goal.invariant-loop-item
invariant-loop-item l = l.copied ≡ entries (take l.item-index l.items)
