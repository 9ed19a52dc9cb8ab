use Rattle.std.proofs.Common.{◌∙◌, arith}
use Rattle.replay_node.proofs.Pieces.{line_stopped, line_done, no_memory}
use Rattle.replay_node.proofs.player.take_line.Goals as goal

pub returns-in_default-clause-plays : goal.returns-in_default-clause-plays
returns-in_default-clause-plays g c = no_memory _ _ _ _ _

pub returns-in-Done-clause-plays : goal.returns-in-Done-clause-plays
returns-in-Done-clause-plays g c =
    line_done c.args.player.now.node c.answer_line.new.node c.args.player.now.line c.args.part.now c.as_slice.result.now c.cut.new.self c.args.player.now.lines _ _ (c.as_slice.ensures ∙ c.in-Ok.ensures.ok) c.cut.ensures c.in-Done.ensures.answer

pub returns-in_default-answer_line : goal.returns-in_default-answer_line
returns-in_default-answer_line g c = record {
  plays = line_stopped c.answer_line.result c.args.player.now.node c.answer_line.new.node c.args.player.now.line c.args.part.now c.as_slice.result.now c.push_slice.new.self c.args.player.now.lines _ _
      (c.as_slice.ensures ∙ c.in-Ok.ensures.ok) c.in_default-answer_line.not-Done c.requires.begun c.requires.ends c.answer_line.ensures.answer;
  fresh = λ done. absurd (c.in_default-answer_line.not-Done done);
  count = omega arith;
  cause = c.answer_line.ensures.cause;
}
