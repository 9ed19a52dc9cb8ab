use Rattle.tracking_state.proofs.StoredParts.{one_spelled}
use Rattle.tracking_state.proofs.parts.body_of_one.Goals as goal

pub returns : goal.returns
returns c body one = c.first_body.ensures c.args.chunk.now.entries body (one_spelled c.args.chunk.now _ body c.header-header.ensures.is_chunk c.parts_of.ensures.payload one) one
