use Rattle.std.proofs.Common.{◌≡◌, ◌≤◌, take}
use Rattle.outside_io.specs.Known.{after_known}
use Rattle.replay_node.specs.Plays.{joined}
use Rattle.replay_node.proofs.player.write_lines.Given as goal

abbrev pub invariant-loop-line : goal.invariant-loop-line
invariant-loop-line g l = record {
  written : g.K.Sink.written l.out ≡ after_known (g.K.Sink.written l.fn.out) (joined (take l.line-index l.lines));
  later : g.K.Sink.faults l.fn.out ≤ g.K.Sink.faults l.out;
}
