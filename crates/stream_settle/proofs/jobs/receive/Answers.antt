use Rattle.stream_settle.proofs.Advancing.{done_advances}
use Rattle.stream_settle.proofs.jobs.receive.Goals as goal

pub returns-in-Did-clause-advances : goal.returns-in-Did-clause-advances
returns-in-Did-clause-advances c = done_advances c.args.now c.args.member c.args.receipt c.turn.result c.args.cluster.now c.turn.new.cluster c.requires.of c.requires.due c.turn.ensures
