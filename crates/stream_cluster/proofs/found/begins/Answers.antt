use Rattle.stream_cluster.proofs.Finds.{begins_is}
use Rattle.stream_cluster.proofs.found.begins.Goals as goal

pub returns : goal.returns
returns c = let e = c.common.ensures in begins_is c.args.one.now c.args.other.now c.common.result e.front e.within e.within_other e.differ
