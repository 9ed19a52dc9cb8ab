use Rattle.std.proofs.Common.{◌≡◌, take, map}
use Rattle.replay_node.specs.Outputs.{output_lines}
use Rattle.replay_node.specs.NodeState.{confirm_of, offers_of}
use Rattle.replay_node.proofs.output.confirm_lines.Given as goal

abbrev pub invariant-loop-offer : goal.invariant-loop-offer
invariant-loop-offer l = l.lines ≡ output_lines (map confirm_of (offers_of l.connection (take l.offer-index l.offers)))
