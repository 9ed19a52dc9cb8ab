use Rattle.std.proofs.Common.{◌+◌, sym}
use Rattle.std.proofs.lemmas.List.{length-take-le}
use Rattle.session_core.proofs.Sayable.{delivered_length, delivered_front}
use Rattle.session_core.proofs.outgoing.delivered_bytes.Goals as goal

pub slice_bounds-result-end : goal.slice_bounds-result-end
slice_bounds-result-end c = sym (length-take-le (48 + c.header.result.now.payload_len) c.bytes.result.now (delivered_length c.args.chunk.now c.bytes.result.now c.header.result.now c.bytes.ensures c.header.ensures.header))

pub returns : goal.returns
returns c = record { is = delivered_front c.args.chunk.now c.bytes.result.now c.header.result.now c.bytes.ensures c.header.ensures.header }
