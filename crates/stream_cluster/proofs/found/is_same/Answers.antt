use Rattle.stream_cluster.proofs.Finds.{same_list, unlike}
use Rattle.stream_cluster.proofs.found.is_same.Goals as goal

pub returns-then-one-other : goal.returns-then-one-other
returns-then-one-other c = unlike c.args.one.now c.args.other.now c.if-one-other.true

pub returns : goal.returns
returns c = same_list c.args.one.now c.args.other.now c.begins.result c.if-one-other.false c.begins.ensures
