use Rattle.std.proofs.Common.{ap, ◌∙◌}
use Rattle.chunk_format.specs.Chunks.{entries_bytes}
use Rattle.chunk_format.specs.declared.chunk.Chunk.{Chunk}
use Rattle.chunk_view.proofs.ViewLaws.{view_parts}
use Rattle.chunk_view.proofs.view.ChunkView.payload.Goals as goal

pub parts_behind-requires : goal.parts_behind-requires
parts_behind-requires c = (view_parts c.self.inside.header c.self.inside.bytes.now c.self.invariant).len

pub returns : goal.returns
returns c =
    let parts = view_parts c.self.inside.header c.self.inside.bytes.now c.self.invariant in
    c.parts_behind.ensures.payload ∙ parts.payload ∙ ap (λ (v : Chunk). entries_bytes v.entries) c.self.view_is
