use Rattle.chunk_format.proofs.BackLaws.{back, viewed_whole}
use Rattle.chunk_view.proofs.view.ChunkView.of_stored.Goals as goal

pub invariant_of-result : goal.invariant_of-result
invariant_of-result c = viewed_whole c.header.result.now c.bytes.result.now c.args.stored.now c.bytes.ensures c.header.ensures.header

pub returns : goal.returns
returns c = back c.header.result.now c.bytes.result.now c.args.stored.now c.bytes.ensures c.header.ensures.header
