use Rattle.std.proofs.Common.{◌∙◌}
use Rattle.tracking_state.proofs.StoredParts.{parts_len, payload_is, trailer_is}
use Rattle.tracking_state.proofs.parts.parts_of.Goals as goal

pub parts_behind-requires : goal.parts_behind-requires
parts_behind-requires c = parts_len c.args.chunk.now c.header.result.now c.bytes.result.now c.header.ensures.header c.bytes.ensures

pub returns-clause-payload : goal.returns-clause-payload
returns-clause-payload c = c.parts_behind.ensures.payload ∙ payload_is c.args.chunk.now c.header.result.now c.bytes.result.now c.header.ensures.header c.bytes.ensures

pub returns-clause-trailer : goal.returns-clause-trailer
returns-clause-trailer c = c.parts_behind.ensures.trailer ∙ trailer_is c.args.chunk.now c.header.result.now c.bytes.result.now c.header.ensures.header c.bytes.ensures
