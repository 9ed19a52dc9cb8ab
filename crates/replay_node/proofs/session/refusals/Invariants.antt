use Rattle.std.proofs.Common.{◌≡◌, take}
use Rattle.replay_node.specs.Sessions.{refusals}
use Rattle.replay_node.proofs.session.refusals.Given as goal

abbrev pub invariant-loop-item : goal.invariant-loop-item
invariant-loop-item l = l.refused ≡ refusals (take l.item-index l.items)
