use Rattle.std.proofs.Common.{◌∙◌, ◌≡◌, ap, subst}
use Rattle.outside_io.specs.Known.{after_known}
use Rattle.replay_node.specs.Plays.{joined}
use Rattle.replay_node.specs.Replays.{outputs_bytes, Begins}
use Rattle.replay_node.proofs.Playing.{joined_lines}
use Rattle.replay_node.proofs.player.answer_line.Goals as goal

pub returns-in-Done-clause-answer : goal.returns-in-Done-clause-answer
returns-in-Done-clause-answer g c =
    let a = c.in-Ok.ensures.ok in
    let same : joined c.as_slice.result.now ≡ outputs_bytes a.outputs = ap joined c.as_slice.ensures ∙ ap joined a.written ∙ joined_lines a.outputs in
    (a.line, a.spells, a.outputs, a.gives, c.in-Done.ensures.gave ∙ ap (after_known (g.K.Sink.written c.args.out.now)) same)

pub returns-in-Ok-clause-answer : goal.returns-in-Ok-clause-answer
returns-in-Ok-clause-answer g c =
    let a = c.in-Ok.ensures.ok in
    let same : joined c.as_slice.result.now ≡ outputs_bytes a.outputs = ap joined c.as_slice.ensures ∙ ap joined a.written ∙ joined_lines a.outputs in
    let cut = c.in-Failed.ensures.gave in
    (a.line, a.spells, a.outputs, a.gives, cut.0, subst (Begins cut.0) same cut.1, cut.2)
