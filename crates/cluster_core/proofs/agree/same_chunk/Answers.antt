use Rattle.cluster_core.proofs.Parting.{same_spelled}
use Rattle.cluster_core.proofs.agree.same_chunk.Goals as goal

pub returns : goal.returns
returns c = same_spelled c.same_bytes.result c.args.one.now c.args.other.now c.bytes.result.now c.bytes-2.result.now c.bytes.ensures c.bytes-2.ensures c.same_bytes.ensures
