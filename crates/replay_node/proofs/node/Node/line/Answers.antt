use Rattle.replay_node.proofs.Reading.{bad_answer}
use Rattle.replay_node.proofs.Runs.{line_answered_runs}
use Rattle.replay_node.proofs.node.Node.line.Goals as goal

pub returns-clause-bad : goal.returns-clause-bad
returns-clause-bad c = λ is. bad_answer c.args.self.now c.args.line.now c.in_ok-line.line c.in_ok-line.ensures.ok (rw is at c.answer.ensures).0

pub returns-clause-steps : goal.returns-clause-steps
returns-clause-steps c = line_answered_runs c.args.self.now c.answer.new.self c.args.line.now c.in_ok-line.line c.answer.result c.in_ok-line.ensures.ok c.answer.ensures
