use Rattle.std.proofs.Common.{◌∙◌, ap, take, List, ℕ}
use Rattle.outside_io.specs.Known.{after_known}
use Rattle.replay_node.proofs.Playing.{cut_lines}
use Rattle.replay_node.proofs.player.write_lines.Goals as goal

pub returns-in-Failed-clause-gave : goal.returns-in-Failed-clause-gave
returns-in-Failed-clause-gave g c =
    cut_lines _ _ _ c.args.lines.now c.loop-line.line-index c.in-Failed.ensures.gave.0 c.line-item.result c.loop-line-test.true c.line-item.is c.loop-line.invariant.written
    (c.in-Failed.ensures.gave.1 ∙ ap (λ (l : List ℕ). after_known (g.K.Sink.written c.loop-line.out) (take c.in-Failed.ensures.gave.0 l)) c.as_slice.ensures)
