use Rattle.std.proofs.Common.{length}
use Rattle.chunk_view.specs.Shown.{shown_entries}
use Rattle.chunk_view.proofs.WalkLaws.{Passed}
use Rattle.chunk_view.proofs.view.ChunkView.from_offset.Given as goal

abbrev pub invariant-entries : goal.invariant-entries
invariant-entries l = Passed l.offset (shown_entries l.self) l.views

abbrev pub decreases-entries : goal.decreases-entries
decreases-entries l = length l.views
