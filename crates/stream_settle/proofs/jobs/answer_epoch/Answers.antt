use Rattle.stream_settle.proofs.Advancing.{done_advances}
use Rattle.stream_settle.proofs.jobs.answer_epoch.Goals as goal

pub returns-in-Ok-clause-advances : goal.returns-in-Ok-clause-advances
returns-in-Ok-clause-advances g c = done_advances c.args.now 0 c.in-Ok.receipt c.turn.result c.args.cluster.now c.turn.new.cluster c.in-Ok.ensures.receipt.1 c.requires.due c.turn.ensures
