use Rattle.std.proofs.Common.{arith}
use Rattle.chunk_view.proofs.LeftLaws.{first_left}
use Rattle.chunk_view.proofs.entries.EntryViews.front.Goals as goal

pub first_view-requires : goal.first_view-requires
first_view-requires c = (first_left c.self.inside.left c.self.inside.first c.self.inside.bytes.now (omega arith) c.self.invariant).begins
