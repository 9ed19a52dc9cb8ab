use Rattle.std.proofs.Common.{◌≡◌, take, map}
use Rattle.replay_node.specs.Outputs.{output_lines}
use Rattle.replay_node.specs.NodeState.{send}
use Rattle.replay_node.proofs.output.command_lines.Given as goal

abbrev pub invariant-loop-command : goal.invariant-loop-command
invariant-loop-command l = l.lines ≡ output_lines (map (send l.connection) (take l.command-index l.commands))
