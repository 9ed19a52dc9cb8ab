use Rattle.std.proofs.Common.{◌++◌, ap, ◌∙◌}
use Rattle.chunk_format.specs.Chunks.{header_bytes, header_of, entries_bytes}
use Rattle.chunk_format.specs.declared.chunk.Chunk.{Chunk}
use Rattle.chunk_view.proofs.ViewLaws.{view_parts, view_delivered}
use Rattle.chunk_view.proofs.view.ChunkView.delivery.Goals as goal

pub before_trailer-requires : goal.before_trailer-requires
before_trailer-requires c = (view_parts c.self.inside.header c.self.inside.bytes.now c.self.invariant).len

pub returns : goal.returns
returns c =
    c.before_trailer.ensures
    ∙ view_delivered c.self.inside.header c.self.inside.bytes.now c.self.invariant
    ∙ ap (λ (v : Chunk). header_bytes (header_of v) ++ entries_bytes v.entries) c.self.view_is
