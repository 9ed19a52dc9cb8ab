use Rattle.std.proofs.Common.{◌≤◌, ◌-◌}
use Rattle.replay_node.specs.Replays.{IsOpen}
use Rattle.replay_node.specs.Plays.{ScriptSoFar}
use Rattle.replay_node.proofs.player.play.Given as goal

abbrev pub invariant-pieces : goal.invariant-pieces
invariant-pieces g l = record {
  so_far : ScriptSoFar (g.S.Source.left l.fn.script) (g.S.Source.left l.script) l.player.node l.player.line l.player.lines l.total (g.K.Sink.written l.fn.out) (g.K.Sink.written l.out);
  begun : IsOpen l.player.line;
  lines : l.player.lines ≤ l.total;
  total : l.total ≤ 1073741824;
  reads : g.S.Source.faults l.fn.script ≤ g.S.Source.faults l.script;
  writes : g.K.Sink.faults l.fn.out ≤ g.K.Sink.faults l.out;
}

abbrev pub decreases-pieces : goal.decreases-pieces
decreases-pieces g l = 1073741825 - l.total
