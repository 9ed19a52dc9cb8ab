use Rattle.chunk_view.proofs.ViewLaws.{view_parts}
use Rattle.chunk_view.proofs.view.ChunkView.trailer.Goals as goal

pub parts_behind-requires : goal.parts_behind-requires
parts_behind-requires c = (view_parts c.self.inside.header c.self.inside.bytes.now c.self.invariant).len
