use Rattle.std.proofs.Common.{◌≡◌, take, map}
use Rattle.replay_node.specs.Outputs.{output_lines}
use Rattle.replay_node.specs.NodeState.{commit_of}
use Rattle.replay_node.proofs.output.commit_lines.Given as goal

abbrev pub invariant-loop-chunk : goal.invariant-loop-chunk
invariant-loop-chunk l = l.lines ≡ output_lines (map commit_of (take l.chunk-index l.chunks))
