use Rattle.stream_settle.proofs.Advancing.{stop_advances}
use Rattle.stream_settle.proofs.jobs.fail.Goals as goal

pub returns-clause-advances : goal.returns-clause-advances
returns-clause-advances c = stop_advances c.args.now c.args.member c.turn.result c.args.cluster.now c.turn.new.cluster c.requires c.turn.ensures
