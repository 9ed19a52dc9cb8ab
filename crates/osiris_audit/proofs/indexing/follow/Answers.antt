use Rattle.std.proofs.Common.{ap}
use Rattle.chunk_format.specs.declared.chunk.Header.{Header}
use Rattle.osiris_audit.proofs.Truncated.{only_front, not_begun}
use Rattle.osiris_audit.proofs.indexing.follow.Goals as goal

pub returns-then-not-may_begin : goal.returns-then-not-may_begin
returns-then-not-may_begin c = λ more d used still may at.
    not_begun c.args.end c.may_begin.result _ _ c.may_begin.ensures c.if-not-may_begin.true (ap (λ (h : Header). h.first) c.header-header.ensures) (only_front c.args.end c.in-Chunk.view d used c.args.bytes.now more c.in-Chunk.ensures at may)
