use Rattle.std.proofs.Common.{◌≤◌, ◌+◌, ◌++◌, length}
use Rattle.replay_node.specs.Replays.{IsOpen}
use Rattle.replay_node.specs.Plays.{SoFar}
use Rattle.replay_node.proofs.player.take_piece.Given as goal

abbrev pub invariant-lines : goal.invariant-lines
invariant-lines g l = record {
  so_far : SoFar l.fn.player.node l.player.node (l.fn.player.line ++ l.fn.piece) (l.player.line ++ l.rest) l.fn.player.lines l.player.lines (g.K.Sink.written l.fn.out) (g.K.Sink.written l.out);
  begun : IsOpen l.player.line;
  room : l.player.lines + length l.rest ≤ l.fn.player.lines + length l.fn.piece;
  later : g.K.Sink.faults l.fn.out ≤ g.K.Sink.faults l.out;
}

abbrev pub decreases-lines : goal.decreases-lines
decreases-lines g l = length l.rest
