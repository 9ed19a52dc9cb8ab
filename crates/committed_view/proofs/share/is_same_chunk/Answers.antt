use Rattle.std.proofs.Common.{sym, ap, ◌∙◌}
use Rattle.chunk_format.specs.Chunks.{chunk_bytes}
use Rattle.committed_view.proofs.Lists.{one_spelled}
use Rattle.committed_view.proofs.share.is_same_chunk.Goals as goal

pub returns : goal.returns
returns c = (
  (λ is. one_spelled c.args.one.now c.args.other.now c.bytes.result.now c.bytes-2.result.now c.bytes.ensures c.bytes-2.ensures (c.is_same.ensures.0 is)),
  (λ is. c.is_same.ensures.1 (c.bytes.ensures.spelled ∙ (ap chunk_bytes is ∙ sym c.bytes-2.ensures.spelled))),
)
