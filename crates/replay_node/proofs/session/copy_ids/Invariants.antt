use Rattle.std.proofs.Common.{◌≡◌, take}
use Rattle.replay_node.proofs.session.copy_ids.Given as goal

abbrev pub invariant-loop-id : goal.invariant-loop-id
invariant-loop-id l = l.copied ≡ take l.id-index l.ids
